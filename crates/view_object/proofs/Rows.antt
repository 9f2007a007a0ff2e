-- Blocks and labels read from their rows, and the place of a word. Assumes nothing.
use Rattle.std.proofs.Common.{◌≡◌, ℕ, suc, ◌+◌, ◌-◌, ◌*◌, ◌%◌, ◌<◌, ◌≤◌, Bool, true, false, not, ltb, List, get_or, sym, refl, ◌∙◌, arith, le-ltb, lt-ltb}
use mathlib.Core.Option.{none, some}
use Rattle.rules.specs.Base.{when◌then◌else◌}
use Rattle.rules.specs.Words.{offset}
use Rattle.view_word.specs.First.{first}
use Rattle.view_word.specs.Labels.{defined_row}
use Rattle.view_object.specs.Pieces.{place, place_from, place_of, covers, has_word, label_address, apart}

-- a row's first cell
first_cell : (s : List ℕ) (j : ℕ) → get_or s (j + 0) 0 ≡ get_or s j 0
first_cell s j = let z : j + 0 ≡ j = omega arith in rw z refl

-- PLACES: the first k blocks are passed, and so many words are left
pub record Placing (bs : List ℕ) (n i k left : ℕ) : Type 0 where
  pub within : k ≤ n
  pub same : place_from bs k (n - k) left ≡ place_of bs n i

pub place-start : (bs : List ℕ) (n i : ℕ) → Placing bs n i 0 i
unfolding place_of
place-start bs n i = let z : n - 0 ≡ n = omega arith in record { within = omega arith; same = rw z refl }

one_more : (n k : ℕ) → k < n → n - k ≡ suc (n - (k + 1))
one_more n k h = omega arith

module _ (bs : List ℕ) {n i k left size wide : ℕ} where
  pub place_here :
      {start : ℕ} → Placing bs n i k left → k < n → start ≡ get_or bs (k * 2 + 0) 0 → size ≡ get_or bs (k * 2 + 1) 0 → wide ≡ size → left < wide → some (place start size left) ≡ place_of bs n i
  unfolding place_from
  place_here s h p q r l =
      let e : ltb left (get_or bs (k * 2 + 1) 0) ≡ true = lt-ltb left (get_or bs (k * 2 + 1) 0) (omega (arith, q, r)) in
      let f : place_from bs k (suc (n - (k + 1))) left ≡ some (place (get_or bs (k * 2) 0) (get_or bs (k * 2 + 1) 0) left) = rw (place_from, e) refl in
      rw (p, q, first_cell bs (k * 2)) (sym (rw (one_more n k h) f) ∙ s.same)

  pub place-on :
      Placing bs n i k left → k < n → size ≡ get_or bs (k * 2 + 1) 0 → wide ≡ size → wide ≤ left → Placing bs n i (k + 1) (left - wide)
  unfolding place_from
  place-on s h q r l =
      let z : wide ≡ get_or bs (k * 2 + 1) 0 = r ∙ q in
      let e : ltb left (get_or bs (k * 2 + 1) 0) ≡ false = le-ltb left (get_or bs (k * 2 + 1) 0) (omega (arith, z)) in
      let f : place_from bs k (suc (n - (k + 1))) left ≡ place_from bs (k + 1) (n - (k + 1)) (left - get_or bs (k * 2 + 1) 0) = rw (place_from, e) refl in
      record { within = omega arith; same = rw z (sym (rw (one_more n k h) f) ∙ s.same) }

pub place_none : {bs : List ℕ} {n i k left : ℕ} → Placing bs n i k left → n ≤ k → none ≡ place_of bs n i
unfolding place_from
place_none {bs} {n} {i} {k} {left} s h = let z : n - k ≡ 0 = omega arith in rw z at s.same

-- LABELS
module _ (bs : List ℕ) (k a : ℕ) where
  pub covers-row :
      {x y b1 b2 w : ℕ} → x ≡ get_or bs (k * 2 + 0) 0 → b1 ≡ x → y ≡ get_or bs (k * 2 + 1) 0 → b2 ≡ y → w ≡ a → ltb ((w + (65536 - b1)) % 65536) b2 ≡ covers bs a k
  unfolding covers offset
  covers-row p p2 q q2 r = rw (r, p2, q2, p, q, first_cell bs (k * 2)) refl

pub has_word_lem : (bs : List ℕ) (n a : ℕ) {k : ℕ} → k ≡ first (covers bs a) n → ltb k n ≡ has_word bs n a
unfolding has_word
has_word_lem bs n a e = rw e refl

pub label-address : (ls : List ℕ) (k : ℕ) {x r : ℕ} → x ≡ get_or ls (k * 4 + 0) 0 → r ≡ x % 65536 → r ≡ label_address ls k
unfolding label_address
label-address ls k e q = q ∙ (rw (e, first_cell ls (k * 4)) refl)

module _ (n : ℕ) (bs ls : List ℕ) (k : ℕ) {d t : Bool} {a : ℕ} where
  pub apart-defined : d ≡ defined_row ls k → d ≡ true → a ≡ label_address ls k → t ≡ has_word bs n a → not t ≡ apart n bs ls k
  unfolding apart when◌then◌else◌
  apart-defined p q r u = rw (sym p, q, sym r, sym u) refl

pub apart-external : (n : ℕ) (bs ls : List ℕ) (k : ℕ) {d : Bool} → d ≡ defined_row ls k → d ≡ false → true ≡ apart n bs ls k
unfolding apart when◌then◌else◌
apart-external n bs ls k p q = rw (sym p, q) refl
