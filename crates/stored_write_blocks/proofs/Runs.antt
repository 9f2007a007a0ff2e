-- Runs written one behind another, and their sizes added up. Assumes nothing.
use Prim.Native.Nat.{ℕ, zero, suc, ◌+◌, ◌-◌, ◌*◌, ◌≤◌, ◌<◌}
use mathlib.Core.Path.{◌≡◌, refl, sym, ◌∙◌, ap}
use mathlib.Core.List.{List, [], ◌++◌, append_assoc, append-nil}
use native.Mathlib.Omega.{arith}
use lib.ListN.{length, take, drop, get_or, length-append, length-drop}
use native.Mathlib.Nat.{add-zero}
use lib.Seq.{take_all, length-take-le, drop-drop, get_or-drop}
use Rattle.rules.specs.Stored.{run, sets, gap}
use Rattle.list_lines.specs.Appended.{Appended}
use Rattle.list_lines.proofs.Appending.{appended-none, appended-more}
use Rattle.stored_fields.specs.Fields.{field_of}
use Rattle.stored_fields.proofs.Fields.{length-gap, length-sets}
use Rattle.stored_write_blocks.specs.Runs.{run_ahead, run_field, run_bytes, Marked, CellsReady, RunFits, RunSized, RunsSized}
use Rattle.stored_write_blocks.proofs.Ahead.{ahead-some, ahead_within, ahead-room, runs_here, no-runs, marked-drop}

-- ONE RUN

module _ (m : ℕ) (ws b : List ℕ) (at : ℕ) where
  pub unset-room : m ≡ 0 → at + length (run_field m ws) ≤ length b → at + length (field_of (run (gap (length ws)))) ≤ length b
  unset-room e h = rw e at h

  pub unset-done : (c : List ℕ) (n : ℕ) → m ≡ 0 → Appended b c at n (field_of (run (gap (length ws)))) → Appended b c at n (run_field m ws)
  unset-done c n e p = rw e p

  set-field : (m ≡ 0 → ⊥) → run_field m ws ≡ field_of (run (sets ws))
  set-field h = go m h
    where
      go : (m : ℕ) → (m ≡ 0 → ⊥) → run_field m ws ≡ field_of (run (sets ws))
      go zero h = absurd (h refl)
      go (suc m) h = refl

  pub set_room : (m ≡ 0 → ⊥) → at + length (run_field m ws) ≤ length b → at + length (field_of (run (sets ws))) ≤ length b
  set_room h r = rw (set-field h) at r

  pub set-done : (c : List ℕ) (n : ℕ) → (m ≡ 0 → ⊥) → Appended b c at n (field_of (run (sets ws))) → Appended b c at n (run_field m ws)
  set-done c n h p = rw (set-field h) p

pub set-short : (m n : ℕ) → (m ≡ 0 → ⊥) → RunFits m n → n ≤ 16384
set-short m n h f = f.short h

pub sized-unset : (m n : ℕ) → m ≡ 0 → 0 < n → RunSized m n 5
sized-unset m n e o = record { size = λ ws l. rw e (length-gap (length ws)); small = omega arith }

pub sized_set : (m n : ℕ) → (m ≡ 0 → ⊥) → 0 < n → RunSized m n (3 + n * 2)
sized_set m n h o = record { size = λ ws l. (let e : length (run_field m ws) ≡ 3 + length ws * 2 = ap length (set-field m ws [] 0 h) ∙ length-sets ws in omega arith); small = omega arith }

-- THE RUN AT A PLACE

-- n is how many words it has, as the code asks it of the part from i on
module _ (ms : List ℕ) (i : ℕ) where
  rest-is : take (length ms - i) (drop i ms) ≡ drop i ms
  rest-is = take_all (length ms - i) (drop i ms) (omega (arith, length-drop i ms))

  first-mark : get_or (drop i ms) 0 0 ≡ get_or ms i 0
  first-mark = get_or-drop i ms 0 0 ∙ ap (λ (k : ℕ). get_or ms k 0) (add-zero i)

  module _ (n : ℕ) (q : n ≡ run_ahead (take (length ms - i) (drop i ms))) where
    is-ahead : n ≡ run_ahead (drop i ms)
    is-ahead = rw rest-is at q

    pub stop-within : i < length ms → i + n ≤ length ms
    stop-within l = omega (arith, is-ahead, ahead_within (drop i ms), length-drop i ms)

    pub run-some : i < length ms → Marked ms → 0 < n
    run-some l h = rw is-ahead (ahead-some (drop i ms) (omega (arith, length-drop i ms)) (marked-drop i ms h))

    pub run-less : i < length ms → Marked ms → length ms - (i + n) < length ms - i
    run-less l h = omega (arith, run-some l h)

    pub run-few : i < length ms → length ms ≤ 65024 → n ≤ 65024
    run-few l f = omega (arith, stop-within l)

    run_room_lem : (get_or ms i 0 ≡ 0 → ⊥) → n ≤ 16384
    run_room_lem h = rw is-ahead (ahead-room (drop i ms) (λ e. h (sym first-mark ∙ e)))

    -- the runs from i on
    run-first : (ws : List ℕ) → length ws ≡ length ms → Marked ms → i < length ms
        → run_bytes (drop i ws) (drop i ms) ≡ run_field (get_or ms i 0) (take n (drop i ws)) ++ run_bytes (drop (i + n) ws) (drop (i + n) ms)
    run-first ws e h l =
        let p = runs_here (drop i ws) (drop i ms) (omega (arith, length-drop i ws, length-drop i ms)) (marked-drop i ms h) (omega (arith, length-drop i ms)) in
        rw (← first-mark, is-ahead, ← drop-drop (run_ahead (drop i ms)) i ws, ← drop-drop (run_ahead (drop i ms)) i ms) p

    length-words : (ws : List ℕ) → length ws ≡ length ms → i < length ms → length (take n (drop i ws)) ≡ n
    length-words ws e l = length-take-le n (drop i ws) (omega (arith, stop-within l, length-drop i ws))

    words-part : (ws : List ℕ) → take (i + n - i) (drop i ws) ≡ take n (drop i ws)
    words-part ws = ap (λ (k : ℕ). take k (drop i ws)) (let e : i + n - i ≡ n = omega arith in e)

-- WRITTEN

pub record RunsOut (ws ms b₀ b : List ℕ) (at end i : ℕ) : Type 0 where
  pub done : List ℕ
  pub here : Appended b₀ b at end done
  pub rest : done ++ run_bytes (drop i ws) (drop i ms) ≡ run_bytes ws ms
  pub within : i ≤ length ms

module _ (ws ms b₀ : List ℕ) (at : ℕ) (ready : CellsReady ws ms) where
  pub runs-out-none : at + length (run_bytes ws ms) ≤ length b₀ → RunsOut ws ms b₀ b₀ at at 0
  runs-out-none h = record { done = []; here = appended-none b₀ at (omega arith); rest = refl; within = omega arith }

  module _ (b : List ℕ) (end i n : ℕ) (inv : RunsOut ws ms b₀ b at end i) (l : i < length ms) (q : n ≡ run_ahead (take (length ms - i) (drop i ms))) where
    pub run_fits : RunFits (get_or ms i 0) (length (take (i + n - i) (drop i ws)))
    run_fits =
        let s : length (take (i + n - i) (drop i ws)) ≡ n = ap length (words-part ms i n q ws) ∙ length-words ms i n q ws ready.same l in
        rw s (record { few = omega (arith, stop-within ms i n q l, ready.few); short = run_room_lem ms i n q })

    pub run-fits-in : at + length (run_bytes ws ms) ≤ length b₀ → end + length (run_field (get_or ms i 0) (take (i + n - i) (drop i ws))) ≤ length b
    run-fits-in h =
        let f = run_field (get_or ms i 0) (take n (drop i ws)) in
        let e = ap length (run-first ms i n q ws ready.same ready.marked l) in
        rw (words-part ms i n q ws)
        (omega (arith, e, length-append f (run_bytes (drop (i + n) ws) (drop (i + n) ms)), ap length inv.rest, length-append inv.done (run_bytes (drop i ws) (drop i ms)), inv.here.stop, inv.here.size))

    pub run_more : (c : List ℕ) (e : ℕ) → Appended b c end e (run_field (get_or ms i 0) (take (i + n - i) (drop i ws))) → RunsOut ws ms b₀ c at e (i + n)
    run_more c e p =
        let f = run_field (get_or ms i 0) (take n (drop i ws)) in
        let r = run_bytes (drop (i + n) ws) (drop (i + n) ms) in
        let p' : Appended b c end e f = rw (words-part ms i n q ws) at p in
        record {
          done = inv.done ++ f;
          here = appended-more inv.here p';
          rest = append_assoc inv.done f r ∙ (ap (λ (x : List ℕ). inv.done ++ x) (sym (run-first ms i n q ws ready.same ready.marked l)) ∙ inv.rest);
          within = stop-within ms i n q l;
        }

  pub runs-out-all : (b : List ℕ) (end i : ℕ) → RunsOut ws ms b₀ b at end i → length ms ≤ i → Appended b₀ b at end (run_bytes ws ms)
  runs-out-all b end i inv l =
      let z : run_bytes (drop i ws) (drop i ms) ≡ [] = no-runs (drop i ws) (drop i ms) (omega (arith, length-drop i ms)) in
      let e : inv.done ≡ run_bytes ws ms = sym (append-nil inv.done) ∙ (ap (λ (x : List ℕ). inv.done ++ x) (sym z) ∙ inv.rest) in
      rw e at inv.here

-- ADDED UP

pub record RunsSummed (ms : List ℕ) (i size : ℕ) : Type 0 where
  pub sum : (ws : List ℕ) → length ws ≡ length ms → length (run_bytes ws ms) ≡ size + length (run_bytes (drop i ws) (drop i ms))
  pub small : size ≤ i * 5
  pub within : i ≤ length ms

module _ (ms : List ℕ) where
  pub run-summed : (i size n r : ℕ) → Marked ms → RunsSummed ms i size → i < length ms → n ≡ run_ahead (take (length ms - i) (drop i ms)) → RunSized (get_or ms i 0) n r → RunsSummed ms (i + n) (size + r)
  run-summed i size n r h inv l q s =
      let more : (ws : List ℕ) → length ws ≡ length ms → length (run_bytes ws ms) ≡ size + r + length (run_bytes (drop (i + n) ws) (drop (i + n) ms)) = λ ws e. (
      let f = run_field (get_or ms i 0) (take n (drop i ws)) in
      let z : length f ≡ r = s.size (take n (drop i ws)) (length-words ms i n q ws e l) in
      omega (arith, inv.sum ws e, ap length (run-first ms i n q ws e h l), length-append f (run_bytes (drop (i + n) ws) (drop (i + n) ms)))) in
      record { sum = more; small = omega (arith, inv.small, s.small, run-some ms i n q l h); within = stop-within ms i n q l }

  pub runs-summed-all : (i size : ℕ) → RunsSummed ms i size → length ms ≤ i → RunsSized ms size
  runs-summed-all i size inv l = record {
    size = λ ws e. (let z : length (run_bytes (drop i ws) (drop i ms)) ≡ 0 = ap length (no-runs (drop i ws) (drop i ms) (omega (arith, length-drop i ms))) in omega (arith, inv.sum ws e));
    small = omega (arith, inv.small, inv.within);
  }
