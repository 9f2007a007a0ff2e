-- A row of the table, byte by byte, and the rows one by one. Assumes nothing.
use Prim.Native.Nat.{ℕ, suc, ◌+◌, ◌-◌, ◌<◌, ◌≤◌}
use mathlib.Core.Path.{◌≡◌, refl, sym, ◌∙◌, ap}
use mathlib.Core.Bool.{Bool, true, false, ◌&&◌}
use mathlib.Core.List.{List, [], ◌∷◌, map}
use native.Mathlib.Omega.{arith}
use borrow.Author.Tests.{eqb-true, leb-true, eq-eqb, ne_eqb}
use lib.Dec.{eqb, leb}
use lib.ListN.{length, get_or, length-map}
use lib.Seq.{length-take-le, get_or-take}
use Rattle.rules.specs.Base.{when◌then◌else◌, same}
use Rattle.rules.specs.Tokens.{upper}
use Rattle.base_text.specs.Runs.{from}
use Rattle.base_text.proofs.Rest.{from_step, from_end}
use Rattle.lex_reserved.specs.Table.{words, row, name_of, find_in}
use Rattle.lex_reserved.specs.declared.Ident.{Ident}
use Rattle.lex_reserved.specs.declared.Ident.TheVariants.{Reserved, Label}
use Rattle.rules.proofs.Instructions.{maps-at}
use Rattle.rules.proofs.Bools.{and_left, and_right}

-- the table's form: a row has seven cells, and its word at most five bytes
abbrev formed : List ℕ → Bool
formed r = eqb (length r) 7 && leb (get_or r 5 0) 5

row-formed : (i : ℕ) → i < 32 → formed (row i) ≡ true
unfolding words row
row-formed i h = maps-at formed (λ r. true) [] words refl i h

pub row-long : (i : ℕ) → i < 32 → length (row i) ≡ 7
row-long i h = eqb-true _ _ (and_left (eqb (length (row i)) 7) _ (row-formed i h))

pub name-short : (i : ℕ) → i < 32 → get_or (row i) 5 0 ≤ 5
name-short i h = leb-true _ _ (and_right (eqb (length (row i)) 7) _ (row-formed i h))

name-long : (i : ℕ) → i < 32 → length (name_of (row i)) ≡ get_or (row i) 5 0
name-long i h = length-take-le _ _ (omega (arith, row-long i h, name-short i h))

-- words of different lengths are not the same
same-lengths : (a b : List ℕ) → (length a ≡ length b → ⊥) → same a b ≡ false
same-lengths [] [] n = absurd (n refl)
same-lengths [] (y ∷ ys) n = refl
same-lengths (x ∷ xs) [] n = refl
same-lengths (x ∷ xs) (y ∷ ys) n = both (eqb x y) (same-lengths xs ys (λ e. n (ap suc e)))
  where
    both : (t : Bool) → same xs ys ≡ false → (t && same xs ys) ≡ false
    both true e = e
    both false e = refl

-- the word of row i against s from byte j on
abbrev pub same_from : ℕ → List ℕ → ℕ → Bool
same_from i s j = same (map upper (from s j)) (from (name_of (row i)) j)

module _ (i : ℕ) (s : List ℕ) {j n : ℕ} (h : i < 32) (m : n ≡ get_or (row i) 5 0) (l : n ≡ length s) where
  module _ {x y : ℕ} {z : Bool} (k : j < n) (p : x ≡ upper (get_or s j 0)) (q : y ≡ get_or (row i) j 0) (g : same_from i s j ≡ z) where
    name-step : from (name_of (row i)) j ≡ y ∷ from (name_of (row i)) (j + 1)
    name-step =
        let b : j < get_or (row i) 5 0 = omega arith in
        from_step (name_of (row i)) j (rw (name-long i h) b) ∙ rw (q, get_or-take _ _ _ _ b)

    pub row-again : x ≡ y → same_from i s (j + 1) ≡ z
    row-again e = sym (rw (name-step, from_step s j (omega arith), ← p, eq-eqb x y e)) ∙ g

    pub row-differs : (x ≡ y → ⊥) → false ≡ z
    row-differs e = sym (rw (name-step, from_step s j (omega arith), ← p, ne_eqb x y e)) ∙ g

  pub row_done : {z : Bool} → n ≤ j → same_from i s j ≡ z → true ≡ z
  row_done k g =
      let b : get_or (row i) 5 0 ≤ j = omega arith in
      sym (rw (from_end (name_of (row i)) j (rw (name-long i h) b), from_end s j (omega arith))) ∙ g

pub row-unlike : (i : ℕ) (s : List ℕ) {n : ℕ} → i < 32 → n ≡ get_or (row i) 5 0 → (n ≡ length s → ⊥) → false ≡ same (map upper s) (name_of (row i))
row-unlike i s h m l = sym (same-lengths (map upper s) (name_of (row i)) (λ e. l (m ∙ sym (name-long i h) ∙ sym e ∙ length-map s upper)))

-- the rows from i up to last, one on
one_less : (i last : ℕ) → i < last → last - i ≡ suc (last - (i + 1))
one_less i last h = omega arith

module _ (w : List ℕ) {i last : ℕ} {z : Ident} where
  pub search-found : {t : Bool} {k : ℕ} → find_in (last - i) i w ≡ z → i < last → t ≡ same w (name_of (row i)) → t ≡ true → k ≡ get_or (row i) 6 0 → Reserved k ≡ z
  unfolding find_in when◌then◌else◌
  search-found g h e t k = rw (one_less i last h, ← e, t, ← k) at g

  pub search-again : {t : Bool} → find_in (last - i) i w ≡ z → i < last → t ≡ same w (name_of (row i)) → t ≡ false → find_in (last - (i + 1)) (i + 1) w ≡ z
  unfolding find_in when◌then◌else◌
  search-again g h e t = rw (one_less i last h, ← e, t) at g

  pub search-done : find_in (last - i) i w ≡ z → last ≤ i → Label ≡ z
  unfolding find_in
  search-done g h = let e : last - i ≡ 0 = omega arith in rw e at g

-- no row
pub find_none : (a b : ℕ) (w : List ℕ) → b ≤ a → Label ≡ find_in (b - a) a w
unfolding find_in
find_none a b w h = let e : b - a ≡ 0 = omega arith in rw e
