-- Runs: what may follow one, as a number, and the fields of set and of unset words. Assumes nothing.
use mathlib.Core.Path.{◌≡◌, refl, sym, ◌∙◌, ap}
use mathlib.Core.Bool.{Bool, true, false, ◌&&◌, not, and-true, and-false, and_comm}
use mathlib.Core.List.{List, [], ◌∷◌, ◌++◌}
use Prim.Native.Nat.{ℕ, zero, suc, ◌+◌, ◌-◌, ◌/◌, ◌%◌, ◌≤◌, ◌<◌}
use native.Mathlib.Nat.{div-add-mod'}
use native.Mathlib.Omega.{arith}
use lib.ListN.{length, length-append}
use lib.Dec.{eqb, leb, ltb}
use borrow.Author.Tests.{eq-eqb, ne_eqb, lt-ltb, leb-true}
use Rattle.rules.specs.Tables.{Table}
use Rattle.rules.specs.Objects.{Cell, flat}
use Rattle.rules.specs.Stored.{Run, sets, gap, run, run_room, State, size, Prev, free, short, skipped, kind, some-unset, some_words, fits, after, flatten, may, grown, next}
use Rattle.rules.proofs.Bools.{and_left, and_right}
use Rattle.laws_stored.specs.Offsets.{number_at, numbers_at}
use Rattle.laws_stored.proofs.Cut.{fits-some}
use Rattle.laws_stored.proofs.Accepted.{Finds}
use Rattle.laws_stored.proofs.Contents.{length-numbers}
use Rattle.laws_stored.proofs.Written.{flatten-more}
use Rattle.laws_stored.proofs.Taken.{may-run}
use Rattle.laws_stored.proofs.Checking.{checks-more}
use Rattle.stored_read.proofs.Found.{Stands}
use Rattle.stored_walk.specs.declared.Walk.{Walk}
use Rattle.stored_walk.specs.declared.Walked.TheVariants.{On, Broken}
use Rattle.stored_walk.specs.Walking.{coded, blocks_of, floor_of, Tells, Steps, Stepped}
use Rattle.stored_walk.specs.Behind.{set_kind, kind_left, behind_run, set_fits, unset_fits}
use Rattle.stored_walk.proofs.Standing.{stands-sets, stands-sets-odd, stands-gap, stands-gap-not}
use Rattle.stored_walk.proofs.Blocks.{breaks, silent, cursor-fresh}

-- WHAT MAY FOLLOW

pub set_full : (n : ℕ) → n ≡ 16384 → 0 ≡ set_kind n
unfolding set_kind
set_full n e = rw (eq-eqb n 16384 e, set_kind) refl

pub set-short : (n : ℕ) → (n ≡ 16384 → ⊥) → 1 ≡ set_kind n
unfolding set_kind
set-short n e = rw (ne_eqb n 16384 e, set_kind) refl

pub kind-kept : (n k : ℕ) → (n ≡ 0 → ⊥) → k ≡ kind_left n k
kind-kept zero k e = absurd (e refl)
kind-kept (suc n) k e = refl

set-coded : (ws : List ℕ) → coded (kind (sets ws)) ≡ set_kind (length ws)
unfolding set_kind run_room
set-coded ws = go (eqb (length ws) 16384)
  where
    go : (x : Bool) → coded (elim x [ true ↦ free | false ↦ short ]) ≡ elim x [ true ↦ 0 | false ↦ 1 ]
    go true = refl
    go false = refl

after_more : (p : Prev) (rs : List Run) (x : Run) → after p (rs ++ (x ∷ [])) ≡ kind x
unfolding after
after_more p [] x = refl
after_more p (r ∷ rs) x = after_more (kind r) rs x

-- THE TESTS ARE THE RULE'S

words-some : (ws : List ℕ) → (ltb 0 (length ws) && leb (length ws) 16384) ≡ some_words ws
unfolding run_room
words-some [] = refl
words-some (w ∷ ws) = rw (lt-ltb 0 (suc (length ws)) (omega arith)) refl

unset-some : (n : ℕ) → ltb 0 n ≡ some-unset n
unset-some zero = refl
unset-some (suc n) = lt-ltb 0 (suc n) (omega arith)

set_free : (o : ℕ) (ws : List ℕ) → (ltb 0 (length ws) && leb (length ws) 16384 && leb (length ws) o && true) ≡ (leb (length ws) o && some_words ws)
set_free o ws = rw (words-some ws) (and-true (some_words ws && leb (length ws) o) ∙ and_comm (some_words ws) (leb (length ws) o))

unset-free : (o n : ℕ) → (ltb 0 n && leb n o && true) ≡ (leb n o && some-unset n)
unset-free o n = rw (unset-some n) (and-true (some-unset n && leb n o) ∙ and_comm (some-unset n) (leb n o))

module _ (b places : List ℕ) (w : Walk) (s : State) (t : Tells b places w s) where
  pub set-fits : (ws : List ℕ) → set_fits w (length ws) ≡ may s (run (sets ws))
  unfolding set_fits may fits
  set-fits ws = rw (t.owed, t.previous, set_fits) (go (after free s.runs))
    where
      go : (p : Prev) → (ltb 0 (length ws) && leb (length ws) 16384 && leb (length ws) s.owed && not (eqb (coded p) 1)) ≡ (leb (length ws) s.owed && fits p (sets ws))
      go free = set_free s.owed ws
      go short = and-false (ltb 0 (length ws) && leb (length ws) 16384 && leb (length ws) s.owed) ∙ sym (and-false (leb (length ws) s.owed))
      go skipped = set_free s.owed ws

  pub unset-fits : (n : ℕ) → unset_fits w n ≡ may s (run (gap n))
  unfolding unset_fits may fits
  unset-fits n = rw (t.owed, t.previous, unset_fits) (go (after free s.runs))
    where
      go : (p : Prev) → (ltb 0 n && leb n s.owed && not (eqb (coded p) 2)) ≡ (leb n s.owed && fits p (gap n))
      go free = unset-free s.owed n
      go short = unset-free s.owed n
      go skipped = and-false (ltb 0 n && leb n s.owed) ∙ sym (and-false (leb n s.owed))

-- BEHIND A RUN

flat-more : (bs : Table ℕ (List Cell)) (a : ℕ) (cs : List Cell) → length (flat (bs ++ ((a, cs) ∷ []))) ≡ length (flat bs) + length cs
flat-more [] a cs = omega (arith, length-append cs [])
flat-more (e ∷ bs) a cs = omega (arith, flat-more bs a cs, length-append e.1 (flat (bs ++ ((a, cs) ∷ []))), length-append e.1 (flat bs))

blocks-open : (k n : ℕ) → 0 < k → blocks_of k n ≡ suc n
blocks-open zero n l = absurd (omega arith)
blocks-open (suc k) n l = refl

floor-open : (k x y : ℕ) → 0 < k → floor_of k x y ≡ y
floor-open zero x y l = absurd (omega arith)
floor-open (suc k) x y l = refl

module _ (b places : List ℕ) (w : Walk) (s : State) (t : Tells b places w s) where
  tells-run : (x : Run) (n k e : ℕ) → Finds b w.at (run x) e → may s (run x) ≡ true → size x ≡ n → coded (kind x) ≡ k → Tells b places (behind_run w e n k) (next s (run x))
  unfolding next after
  tells-run x n k e f m z q = go (s.owed - size x) refl
    where
      some : 0 < s.owed
      some = omega (arith, fits-some (after free s.runs) x (may-run s x m).follows, (may-run s x m).owed)

      go : (j : ℕ) → s.owed - size x ≡ j → Tells b places (behind_run w e n k) (grown s (s.runs ++ (x ∷ [])) (s.owed - size x))
      go zero d =
          let c = checks-more b s w.at (run x) e t.checks f m refl in
          let h : w.owed - n ≡ 0 = omega (arith, t.owed) in
          rw d (record {
            checks = rw d at c;
            blocks = omega (arith, t.blocks, blocks-open s.owed (length s.blocks) some, length-append s.blocks ((s.start, flatten (s.runs ++ (x ∷ []))) ∷ []));
            words = omega (arith, t.words, flat-more s.blocks s.start (flatten (s.runs ++ (x ∷ []))), flatten-more s.runs x);
            floor = t.floor ∙ floor-open s.owed s.floor (s.start + s.total) some;
            owed = h;
            previous = rw h refl;
            shut = λ v. refl;
            labels = t.labels;
            named = t.named;
            noted = t.noted;
            relocations = t.relocations;
            least = t.least;
            fresh = t.fresh;
            cursor = rw d at (cursor-fresh b places w s (next s (run x)) e (next s (run x)).least t (t.checks.along.no-relocs some) c);
          })
      go (suc j) d =
          let c = checks-more b s w.at (run x) e t.checks f m refl in
          let h : w.owed - n ≡ suc j = omega (arith, t.owed) in
          rw d (record {
            checks = rw d at c;
            blocks = t.blocks ∙ blocks-open s.owed (length s.blocks) some;
            words = omega (arith, t.words, flatten-more s.runs x);
            floor = t.floor ∙ floor-open s.owed s.floor (s.start + s.total) some;
            owed = h;
            previous = rw (h, after_more free s.runs x) (sym q);
            shut = λ v. absurd (omega arith);
            labels = t.labels;
            named = t.named;
            noted = t.noted;
            relocations = t.relocations;
            least = t.least;
            fresh = t.fresh;
            cursor = rw d at (cursor-fresh b places w s (next s (run x)) e (next s (run x)).least t (t.checks.along.no-relocs some) c);
          })

  pub run_on : (x : Run) (n k e : ℕ) (r : Walk) → Finds b w.at (run x) e → may s (run x) ≡ true → size x ≡ n → coded (kind x) ≡ k → r ≡ behind_run w e n k → Steps b places w s (On r)
  unfolding Steps
  run_on x n k e r f m z q h = rw h (record { item = run x; found = f; allowed = m; more = refl; row = tt; tells = tells-run x n k e f m z q })

-- x02: words

pub set-owed : (w : Walk) (n : ℕ) → set_fits w n ≡ true → n ≤ w.owed
unfolding set_fits
set-owed w n y =
    leb-true n w.owed
    (and_right (ltb 0 n && leb n 16384) (leb n w.owed) (and_left (ltb 0 n && leb n 16384 && leb n w.owed) (not (eqb w.previous 1)) y))

module _ (b : List ℕ) (w : Walk) (start end n : ℕ) (f : Stands b w.at 2 start end) (h : n ≡ (end - start) / 2) where
  module _ (e : (end - start) % 2 ≡ 0) where
    found-sets : Finds b w.at (run (sets (numbers_at b start n))) end
    found-sets = stands-sets b w.at start end n f (omega (arith, div-add-mod' (end - start) 2))

    may-sets : (places : List ℕ) (s : State) → Tells b places w s → set_fits w n ≡ may s (run (sets (numbers_at b start n)))
    may-sets places s t = let l = length-numbers b start n in rw l at (set-fits b places w s t (numbers_at b start n))

    pub set-taken : set_fits w n ≡ true → (k : ℕ) → k ≡ set_kind n → (r : Walk) → r ≡ behind_run w end n k → Stepped b w (On r)
    set-taken y k j r q = record {
      steps = λ places s t. let l = length-numbers b start n in
          run_on b places w s t (sets (numbers_at b start n)) n k end r found-sets (sym (may-sets places s t) ∙ y) l (set-coded (numbers_at b start n) ∙ (ap set_kind l ∙ sym j)) q;
    }

    pub set-refused : set_fits w n ≡ false → Stepped b w (Broken w.at)
    set-refused y = record { steps = λ places s t. breaks b places places w s t (run (sets (numbers_at b start n))) end found-sets (sym (may-sets places s t) ∙ y) }

  pub set-odd : ((end - start) % 2 ≡ 0 → ⊥) → Stepped b w (Broken w.at)
  set-odd e = record {
    steps = λ places s t. silent b places places w s t (stands-sets-odd b w.at start end n f (omega (arith, e, div-add-mod' (end - start) 2)));
  }

-- x03: a count

pub unset-owed : (w : Walk) (n : ℕ) → unset_fits w n ≡ true → n ≤ w.owed
unfolding unset_fits
unset-owed w n y = leb-true n w.owed (and_right (ltb 0 n) (leb n w.owed) (and_left (ltb 0 n && leb n w.owed) (not (eqb w.previous 2)) y))

module _ (b : List ℕ) (w : Walk) (start end n : ℕ) (f : Stands b w.at 3 start end) where
  module _ (l : end - start ≡ 2) (h : n ≡ number_at b start) where
    found-gap : Finds b w.at (run (gap n)) end
    found-gap = rw h (stands-gap b w.at start end f l)

    pub unset-taken : unset_fits w n ≡ true → (r : Walk) → r ≡ behind_run w end n 2 → Stepped b w (On r)
    unset-taken y r q = record { steps = λ places s t. run_on b places w s t (gap n) n 2 end r found-gap (sym (unset-fits b places w s t n) ∙ y) refl refl q }

    pub unset-refused : unset_fits w n ≡ false → Stepped b w (Broken w.at)
    unset-refused y = record { steps = λ places s t. breaks b places places w s t (run (gap n)) end found-gap (sym (unset-fits b places w s t n) ∙ y) }

pub unset-long : (b : List ℕ) (w : Walk) (start end : ℕ) → Stands b w.at 3 start end → (end - start ≡ 2 → ⊥) → Stepped b w (Broken w.at)
unset-long b w start end f l = record { steps = λ places s t. silent b places places w s t (stands-gap-not b w.at start end f l) }
