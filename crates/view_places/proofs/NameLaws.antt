-- A row of the table of names, inside and outside it. Assumes nothing.
use Prim.Native.Nat.{ℕ, zero, suc, ◌<◌, ◌≤◌}
use mathlib.Core.Path.{◌≡◌, refl}
use mathlib.Core.List.{List, [], ◌∷◌}
use native.Mathlib.Nat.{not-suc-le-zero, le_of_suc-le-suc}
use lib.ListN.{length, get_or}
use Rattle.view_places.specs.Names.{names, rows, name_row, filled}

module _ {A : Type 0} where
  row-in : (l : List A) (n : ℕ) (d e : A) → n < length l → get_or l n d ≡ get_or l n e
  row-in [] n d e h = absurd (not-suc-le-zero h)
  row-in (x ∷ l) zero d e h = refl
  row-in (x ∷ l) (suc n) d e h = row-in l n d e (le_of_suc-le-suc h)

  row_out_lem : (l : List A) (n : ℕ) (d : A) → length l ≤ n → d ≡ get_or l n d
  row_out_lem [] n d h = refl
  row_out_lem (x ∷ l) zero d h = absurd (not-suc-le-zero h)
  row_out_lem (x ∷ l) (suc n) d h = row_out_lem l n d (le_of_suc-le-suc h)

fifty-two : length rows ≡ 52
unfolding rows names
fifty-two = refl

pub name_in_lem : (n : ℕ) → n < 52 → get_or rows n [] ≡ name_row n
unfolding name_row
name_in_lem n h = row-in rows n [] (filled 17 []) (rw fifty-two h)

pub name_out : (n : ℕ) → 52 ≤ n → filled 17 [] ≡ name_row n
unfolding name_row
name_out n h = row_out_lem rows n (filled 17 []) (rw fifty-two h)
