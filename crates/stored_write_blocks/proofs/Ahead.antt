-- The first run of words beside their marks, and what is behind it. Assumes nothing.
use Prim.Native.Nat.{ℕ, zero, suc, min, ◌+◌, ◌-◌, ◌≤◌, ◌<◌}
use mathlib.Core.Path.{◌≡◌, refl, sym, ◌∙◌, ap}
use mathlib.Core.Bool.{Bool, true, false}
use mathlib.Core.List.{List, [], ◌∷◌, ◌++◌}
use native.Mathlib.Decide.{dec_lt}
use native.Mathlib.Numerals.{add-one}
use native.Mathlib.Omega.{arith}
use borrow.Author.Tests.{eq-eqb, ne_eqb}
use lib.Dec.{eqb}
use lib.ListN.{length, take, drop, get_or, length-take, length-drop, drop_of_length-le}
use lib.Seq.{drop-cons, length-take-le, get_or-take, get_or-drop}
use Rattle.std.proofs.lemmas.List.{take_min}
use Rattle.rules.specs.Objects.{Cell, unset, word}
use Rattle.rules.specs.Stored.{Run, sets, gap, run, run_room, spell, run_items, runs_of, words_then, unset_then}
use Rattle.laws_stored.proofs.Cut.{room-is, NoneSet, NoneUnset, runs_none, runs-gap, runs-set, runs-full}
use Rattle.object.specs.Decides.{Decides}
use Rattle.stored_fields.specs.Fields.{field_of}
use Rattle.stored_write_blocks.specs.Runs.{Alike, alike, Passed, run_ahead, cells_of, run_field, run_bytes, Marked}

-- MARKS ALIKE

module _ (m : ℕ) (ms : List ℕ) where
  module _ (i : ℕ) (p : Passed m ms i) where
    pub passed-more : i < length ms → get_or ms i 0 ≡ m → Passed m ms (i + 1)
    unfolding alike
    passed-more l e =
        let d : alike m (drop i ms) ≡ suc (alike m (drop (i + 1) ms)) = rw (add-one i, drop-cons ms i 0 l) (rw (eq-eqb (get_or ms i 0) m e, alike) refl) in
        record { rest = omega (arith, p.rest); within = omega arith }

    pub passed-stop : i < length ms → (get_or ms i 0 ≡ m → ⊥) → i ≡ alike m ms
    unfolding alike
    passed-stop l h =
        let d : alike m (drop i ms) ≡ 0 = rw (drop-cons ms i 0 l) (rw (ne_eqb (get_or ms i 0) m h, alike) refl) in
        omega (arith, p.rest)

    pub passed-all : length ms ≤ i → i ≡ alike m ms
    unfolding alike
    passed-all l = let d : alike m (drop i ms) ≡ 0 = rw (drop_of_length-le ms l) refl in omega (arith, p.rest)

-- a step of many marks
passed-steps : (m : ℕ) (ms : List ℕ) (i k : ℕ) → Passed m ms i → i + k ≤ length ms → ((j : ℕ) → j < k → get_or ms (i + j) 0 ≡ m) → Passed m ms (i + k)
passed-steps m ms i zero p l h = let e : i + 0 ≡ i = omega arith in rw e p
passed-steps m ms i (suc k) p l h =
    let e : i + suc k ≡ (i + k) + 1 = omega arith in
    rw e (passed-more m ms (i + k) (passed-steps m ms i k p (omega arith) (λ j q. h j (omega arith))) (omega arith) (h k (omega arith)))

pub passed-step : (m : ℕ) (ms : List ℕ) (i : ℕ) {x : List ℕ} {r : Bool} → Passed m ms i → 256 ≤ length ms - i → x ≡ take ((i + 256) - i) (drop i ms) → Decides (Alike m x (length x)) r → r ≡ true
    → Passed m ms (i + 256)
passed-step m ms i p l e d y =
    let n : (i + 256) - i ≡ 256 = omega arith in
    let f = rw (e, n) at (d.yes y) in
    let s : length (take 256 (drop i ms)) ≡ 256 = length-take-le 256 (drop i ms) (omega (arith, length-drop i ms)) in
    passed-steps m ms i 256 p (omega (arith, p.within)) (λ j q. sym (get_or-take 256 (drop i ms) j 0 q ∙ get_or-drop i ms j 0) ∙ f j (omega arith))

alike-none : (m x : ℕ) (ms : List ℕ) → (x ≡ m → ⊥) → alike m (x ∷ ms) ≡ 0
unfolding alike
alike-none m x ms h = rw (ne_eqb x m h, alike) refl

alike-le : (m : ℕ) (ms : List ℕ) → alike m ms ≤ length ms
unfolding alike
alike-le m [] = omega arith
alike-le m (x ∷ ms) = go (eqb x m) (alike-le m ms)
  where
    go : (b : Bool) → alike m ms ≤ length ms → elim b [ true ↦ suc (alike m ms) | false ↦ 0 ] ≤ suc (length ms)
    go true h = omega arith
    go false h = omega arith

-- THE FIRST RUN'S SIZE

pub ahead-unset : (ms : List ℕ) (r : ℕ) → 0 < length ms → get_or ms 0 0 ≡ 0 → r ≡ alike 0 ms → r ≡ run_ahead ms
unfolding run_ahead
ahead-unset [] r l e q = absurd (omega arith)
ahead-unset (zero ∷ ms) r l e q = q
ahead-unset (suc m ∷ ms) r l e q = absurd (omega arith)

pub ahead_set : (ms : List ℕ) (r : ℕ) → 0 < length ms → (get_or ms 0 0 ≡ 0 → ⊥) → r ≡ alike (get_or ms 0 0) (take (min 16384 (length ms)) ms) → r ≡ run_ahead ms
unfolding run_ahead run_room
ahead_set [] r l h q = absurd (omega arith)
ahead_set (zero ∷ ms) r l h q = absurd (h refl)
ahead_set (suc m ∷ ms) r l h q = rw take_min at q

-- UNSET WORDS

unset-split : (ws ms : List ℕ) → length ws ≡ length ms → cells_of ws ms ≡ unset_then (alike 0 ms) (cells_of (drop (alike 0 ms) ws) (drop (alike 0 ms) ms))
unfolding alike cells_of
unset-split ws [] e = refl
unset-split [] (m ∷ ms) e = absurd (omega arith)
unset-split (w ∷ ws) (zero ∷ ms) e = ap (λ (l : List Cell). unset ∷ l) (unset-split ws ms (omega arith))
unset-split (w ∷ ws) (suc m ∷ ms) e = let z : alike 0 (suc m ∷ ms) ≡ 0 = alike-none 0 (suc m) ms (λ h. omega arith) in rw z refl

unset-stop : (ws ms : List ℕ) → length ws ≡ length ms → NoneUnset (cells_of (drop (alike 0 ms) ws) (drop (alike 0 ms) ms))
unfolding alike cells_of
unset-stop ws [] e = tt
unset-stop [] (m ∷ ms) e = absurd (omega arith)
unset-stop (w ∷ ws) (zero ∷ ms) e = unset-stop ws ms (omega arith)
unset-stop (w ∷ ws) (suc m ∷ ms) e = let z : alike 0 (suc m ∷ ms) ≡ 0 = alike-none 0 (suc m) ms (λ h. omega arith) in rw z tt

-- SET WORDS, k at most

set_split : (k : ℕ) (ws ms : List ℕ) → length ws ≡ length ms
    → cells_of ws ms ≡ words_then (take (alike 1 (take k ms)) ws) (cells_of (drop (alike 1 (take k ms)) ws) (drop (alike 1 (take k ms)) ms))
unfolding alike cells_of
set_split zero ws ms e = refl
set_split (suc k) ws [] e = refl
set_split (suc k) [] (m ∷ ms) e = absurd (omega arith)
set_split (suc k) (w ∷ ws) (zero ∷ ms) e = refl
set_split (suc k) (w ∷ ws) (suc zero ∷ ms) e = ap (λ (l : List Cell). word w ∷ l) (set_split k ws ms (omega arith))
set_split (suc k) (w ∷ ws) (suc (suc m) ∷ ms) e = let z : alike 1 (suc (suc m) ∷ take k ms) ≡ 0 = alike-none 1 (suc (suc m)) (take k ms) (λ h. omega arith) in rw z refl

marked-tail : (m : ℕ) (ms : List ℕ) → Marked (m ∷ ms) → Marked ms
marked-tail m ms h = record { low = λ i l. h.low (suc i) (omega arith) }

set-stop : (k : ℕ) (ws ms : List ℕ) → length ws ≡ length ms → Marked ms → alike 1 (take k ms) < k → NoneSet (cells_of (drop (alike 1 (take k ms)) ws) (drop (alike 1 (take k ms)) ms))
unfolding alike cells_of
set-stop zero ws ms e h l = absurd (omega arith)
set-stop (suc k) ws [] e h l = tt
set-stop (suc k) [] (m ∷ ms) e h l = absurd (omega arith)
set-stop (suc k) (w ∷ ws) (zero ∷ ms) e h l = tt
set-stop (suc k) (w ∷ ws) (suc zero ∷ ms) e h l = set-stop k ws ms (omega arith) (marked-tail 1 ms h) (omega arith)
set-stop (suc k) (w ∷ ws) (suc (suc m) ∷ ms) e h l = absurd (omega (arith, h.low 0 (omega arith)))

-- HOW FAR IT GOES

ahead-one : (ms : List ℕ) → alike 1 (take run_room (1 ∷ ms)) ≡ suc (alike 1 (take 16383 ms))
unfolding alike run_room
ahead-one ms = refl

ahead-zero : (ms : List ℕ) → alike 0 (0 ∷ ms) ≡ suc (alike 0 ms)
unfolding alike
ahead-zero ms = refl

pub ahead-some : (ms : List ℕ) → 0 < length ms → Marked ms → 0 < run_ahead ms
unfolding run_ahead
ahead-some [] l h = absurd (omega arith)
ahead-some (zero ∷ ms) l h = omega (arith, ahead-zero ms)
ahead-some (suc zero ∷ ms) l h = omega (arith, ahead-one ms)
ahead-some (suc (suc m) ∷ ms) l h = absurd (omega (arith, h.low 0 (omega arith)))

pub ahead_within : (ms : List ℕ) → run_ahead ms ≤ length ms
unfolding run_ahead
ahead_within [] = omega arith
ahead_within (zero ∷ ms) = alike-le zero (zero ∷ ms)
ahead_within (suc m ∷ ms) = omega (arith, alike-le (suc m) (take run_room (suc m ∷ ms)), length-take run_room (suc m ∷ ms))

pub ahead-room : (ms : List ℕ) → (get_or ms 0 0 ≡ 0 → ⊥) → run_ahead ms ≤ 16384
unfolding run_ahead
ahead-room [] h = omega arith
ahead-room (zero ∷ ms) h = absurd (h refl)
ahead-room (suc m ∷ ms) h = omega (arith, alike-le (suc m) (take run_room (suc m ∷ ms)), length-take run_room (suc m ∷ ms), room-is)

-- THE RUNS ARE THE FIRST AND THOSE OF WHAT IS BEHIND IT

spell-first : (r : Run) (rs : List Run) → spell (run_items (r ∷ rs)) ≡ field_of (run r) ++ spell (run_items rs)
unfolding field_of
spell-first r rs = refl

unset-first : (ws ms : List ℕ) → length ws ≡ suc (length ms) → let r = alike 0 (0 ∷ ms) in run_bytes ws (0 ∷ ms) ≡ field_of (run (gap (length (take r ws)))) ++ run_bytes (drop r ws) (drop r (0 ∷ ms))
unfolding run_bytes
unset-first ws ms e =
    let r = alike 0 (0 ∷ ms) in
    let n : length (take r ws) ≡ suc (alike 0 ms) = length-take-le r ws (omega (arith, alike-le 0 (0 ∷ ms))) ∙ ahead-zero ms in
    let cs = cells_of (drop r ws) (drop r (0 ∷ ms)) in
    let p : cells_of ws (0 ∷ ms) ≡ unset_then (suc (alike 0 ms)) cs = unset-split ws (0 ∷ ms) e ∙ ap (λ (k : ℕ). unset_then k cs) (ahead-zero ms) in
    let q : runs_of (cells_of ws (0 ∷ ms)) ≡ gap (length (take r ws)) ∷ runs_of cs = ap runs_of p ∙ (runs-gap (alike 0 ms) cs (unset-stop ws (0 ∷ ms) e) ∙ ap (λ (k : ℕ). gap k ∷ runs_of cs) (sym n)) in
    ap (λ (rs : List Run). spell (run_items rs)) q ∙ spell-first (gap (length (take r ws))) (runs_of cs)

-- set words: a full run, or one that an unset word or the end stops
set_runs : (us : List ℕ) (cs : List Cell) → 0 < length us → length us ≤ run_room → (length us < run_room → NoneSet cs) → runs_of (words_then us cs) ≡ sets us ∷ runs_of cs
set_runs [] cs o l h = absurd (omega arith)
set_runs (u ∷ us) cs o l h = elim (dec_lt (suc (length us)) run_room) [ yes p ↦ runs-set u us cs l (h p) | no p ↦ runs-full (u ∷ us) cs (omega arith) ]

set_first : (ws ms : List ℕ) → length ws ≡ suc (length ms) → Marked (1 ∷ ms) → let r = alike 1 (take run_room (1 ∷ ms)) in run_bytes ws (1 ∷ ms) ≡ field_of (run (sets (take r ws))) ++ run_bytes (drop r ws) (drop r (1 ∷ ms))
unfolding run_bytes
set_first ws ms e h =
    let r = alike 1 (take run_room (1 ∷ ms)) in
    let b : r ≤ run_room = omega (arith, alike-le 1 (take run_room (1 ∷ ms)), length-take run_room (1 ∷ ms)) in
    let n : length (take r ws) ≡ r = length-take-le r ws (omega (arith, alike-le 1 (take run_room (1 ∷ ms)), length-take run_room (1 ∷ ms))) in
    let cs = cells_of (drop r ws) (drop r (1 ∷ ms)) in
    let s : length (take r ws) < run_room → NoneSet cs = λ l. set-stop run_room ws (1 ∷ ms) e h (omega arith) in
    let q : runs_of (cells_of ws (1 ∷ ms)) ≡ sets (take r ws) ∷ runs_of cs = ap runs_of (set_split run_room ws (1 ∷ ms) e) ∙ set_runs (take r ws) cs (omega (arith, ahead-one ms)) (omega arith) s in
    ap (λ (rs : List Run). spell (run_items rs)) q ∙ spell-first (sets (take r ws)) (runs_of cs)

pub runs_here : (ws ms : List ℕ) → length ws ≡ length ms → Marked ms → 0 < length ms
    → run_bytes ws ms ≡ run_field (get_or ms 0 0) (take (run_ahead ms) ws) ++ run_bytes (drop (run_ahead ms) ws) (drop (run_ahead ms) ms)
unfolding run_ahead
runs_here ws [] e h l = absurd (omega arith)
runs_here ws (zero ∷ ms) e h l = unset-first ws ms e
runs_here ws (suc zero ∷ ms) e h l = set_first ws ms e h
runs_here ws (suc (suc m) ∷ ms) e h l = absurd (omega (arith, h.low 0 (omega arith)))

pub no-runs : (ws ms : List ℕ) → length ms ≡ 0 → run_bytes ws ms ≡ []
unfolding run_bytes cells_of
no-runs ws [] e = ap (λ (rs : List Run). spell (run_items rs)) runs_none
no-runs ws (m ∷ ms) e = absurd (omega arith)

pub marked-drop : (i : ℕ) (ms : List ℕ) → Marked ms → Marked (drop i ms)
marked-drop i ms h = record { low = λ k l. rw (get_or-drop i ms k 0) (h.low (i + k) (omega (arith, length-drop i ms))) }
