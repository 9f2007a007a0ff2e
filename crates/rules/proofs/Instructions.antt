-- The tables of rows: how many instructions there are, and what one computed test over a list says of each entry and of the row that a word finds. Assumes nothing.
use Prim.Native.Nat.{ℕ, zero, suc, ◌<◌}
use mathlib.Core.Path.{◌≡◌, refl}
use mathlib.Core.Bool.{Bool, true, false}
use mathlib.Core.List.{List, [], ◌∷◌, map}
use mathlib.Core.Option.{Option, some}
use native.Mathlib.Nat.{not-suc-le-zero, le_of_suc-le-suc}
use lib.Dec.{eqb}
use lib.ListN.{length, get_or}
use Rattle.rules.specs.Base.{same}
use Rattle.rules.specs.Words.{Row, find, instructions}
use Rattle.rules.proofs.Bools.{never}

pub instructions-count : length instructions ≡ 32
unfolding instructions
instructions-count = refl

-- what holds of each row holds of the one that is found
abbrev pub All : (Row → Type 0) → List Row → Type 0
All P [] = Unit {0}
All P (r ∷ rs) = P r × All P rs

pub found : (P : Row → Type 0) (w : List ℕ) (rs : List Row) (r : Row) → All P rs → find w rs ≡ some r → P r
unfolding find
found P w [] r h e = never cc
found P w (q ∷ rs) r h e = go (same w q.key) e (found P w rs r h.1)
  where
    go : (b : Bool) → ◌≡◌ {A = Option Row} (elim b [ true ↦ some q | false ↦ find w rs ]) (some r) → (find w rs ≡ some r → P r) → P r
    go true x again = let y : q ≡ r = cc in rw (← y) h.0
    go false x again = again x

-- A COMPUTED TEST: two functions agree on each entry, so on the one at a place and on the row that is found
pub maps-at : {A B : Type 0} (f g : A → B) (d : A) (xs : List A) → map f xs ≡ map g xs → (i : ℕ) → i < length xs → f (get_or xs i d) ≡ g (get_or xs i d)
maps-at f g d [] e i h = absurd (not-suc-le-zero h)
maps-at f g d (x ∷ xs) e zero h = cc
maps-at f g d (x ∷ xs) e (suc i) h = maps-at f g d xs (cc) i (le_of_suc-le-suc h)

pub maps-found : {B : Type 0} (f g : Row → B) (w : List ℕ) (rs : List Row) (r : Row) → map f rs ≡ map g rs → find w rs ≡ some r → f r ≡ g r
maps-found f g w rs r e h = found (λ q. f q ≡ g q) w rs r (each rs e) h
  where
    each : (rs : List Row) → map f rs ≡ map g rs → All (λ q. f q ≡ g q) rs
    each [] e = tt
    each (q ∷ rs) e = (cc, each rs (cc))

-- the instruction whose operand may be left out is the one whose word is 0
pub optional-zero : (i : ℕ) (d : Row) → i < 32 → (get_or instructions i d).optional ≡ eqb (get_or instructions i d).base 0
unfolding instructions
optional-zero i d h = maps-at (λ r. r.optional) (λ r. eqb r.base 0) d instructions refl i h
