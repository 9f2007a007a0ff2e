-- Each row of the table means the rules' row: the computed test, and what a search by name finds. Assumes nothing.
use Prim.Native.Nat.{ℕ, zero, suc, ◌+◌, ◌≤◌, ◌<◌}
use mathlib.Core.Path.{◌≡◌, refl, ap}
use mathlib.Core.Bool.{Bool, true, false}
use mathlib.Core.List.{List, [], ◌∷◌, map}
use mathlib.Core.Option.{none, some}
use native.Mathlib.Nat.{not-suc-le-zero, le_of_suc-le-suc}
use native.Mathlib.Omega.{arith}
use lib.Dec.{eqb}
use lib.ListN.{length, get_or}
use Rattle.rules.specs.Base.{when◌then◌else◌, same}
use Rattle.rules.specs.Words.{Op, Field, Row, instructions, directives, find}
use Rattle.rules.proofs.Run.{in_run}
use Rattle.rules.proofs.Bools.{either}
use Rattle.lex.specs.Sorts.{no_row}
use Rattle.lex.proofs.Marks.{alike, alike-eq}
use Rattle.parse_rows.specs.Rows.{table, cells, field_at, op_at, op_of, fields_by, row_at, nop_row, Means, code_from}

-- the rows from j on mean these
abbrev MeansFrom : ℕ → List Row → Type 0
MeansFrom j [] = Unit {0}
MeansFrom j (r ∷ rs) = Means (row_at j) r × MeansFrom (j + 1) rs

-- the computed test: what the code's row and the rules' row say
abbrev Says : Type 0
Says = Op × ℕ × List Field

abbrev code_says : ℕ → Says
code_says j = let c = row_at j in (op_of c.op, c.base, fields_by c.count c.first c.second c.third)

abbrev code_from_says : ℕ → List Row → List Says
code_from_says j [] = []
code_from_says j (r ∷ rs) = code_says j ∷ code_from_says (j + 1) rs

abbrev rule_says : Row → Says
rule_says r = (r.op, r.base, r.fields)

each-means : (j : ℕ) (rs : List Row) → code_from_says j rs ≡ map rule_says rs → MeansFrom j rs
each-means j [] e = tt
each-means j (r ∷ rs) e =
    let h : code_says j ≡ rule_says r = cc in
    (record { op = ap (λ (x : Says). x.0) h; base = ap (λ (x : Says). x.1) h; fields = ap (λ (x : Says). x.2) h }, each-means (j + 1) rs (cc))

each-instruction : MeansFrom 0 instructions
unfolding instructions table cells field_at op_at row_at when◌then◌else◌
each-instruction = each-means 0 instructions refl

each-directive : MeansFrom 32 directives
unfolding directives table cells field_at op_at row_at when◌then◌else◌
each-directive = each-means 32 directives refl

means-at : (i j : ℕ) (rs : List Row) → MeansFrom j rs → i < length rs → Means (row_at (j + i)) (get_or rs i no_row)
means-at i j [] m h = absurd (not-suc-le-zero h)
means-at zero j (r ∷ rs) m h = let z : j + 0 ≡ j = omega arith in rw z m.0
means-at (suc i) j (r ∷ rs) m h = let z : j + suc i ≡ j + 1 + i = omega arith in rw z (means-at i (j + 1) rs m.1 (le_of_suc-le-suc h))

pub instruction-means : (i : ℕ) → i < 32 → Means (row_at i) (get_or instructions i no_row)
unfolding instructions
instruction-means i h = let z : 0 + i ≡ i = omega arith in rw z at (means-at i 0 instructions each-instruction h)

-- NOP is the one instruction whose word is 0
pub nop-zero : (i : ℕ) → i < 32 → eqb (row_at i).base 0 ≡ eqb i nop_row
unfolding table cells row_at alike
nop-zero i h = alike-eq (eqb (row_at i).base 0) (eqb i nop_row) (in_run (λ j. alike (eqb (row_at j).base 0) (eqb j nop_row)) 0 32 tt i (omega arith) (omega arith))

-- a place is counted from the first
pub code-ge : (j : ℕ) (w : List ℕ) (rs : List Row) → j ≤ code_from j w rs
unfolding code_from
code-ge j w [] = omega arith
code-ge j w (r ∷ rs) = either (λ k. j ≤ k) (same w r.key) (omega arith) (omega (arith, code-ge (j + 1) w rs))

-- what the search by name finds
pub record Found (w : List ℕ) (k : ℕ) (rs : List Row) : Type 0 where
  pub row : Row
  pub is : find w rs ≡ some row
  pub means : Means (row_at k) row

found-on : (w : List ℕ) (k : ℕ) (r : Row) (rs : List Row) → same w r.key ≡ false → Found w k rs → Found w k (r ∷ rs)
unfolding find
found-on w k r rs b f = record { row = f.row; is = rw (b, find) f.is; means = f.means }

found : (w : List ℕ) (j k : ℕ) (rs : List Row) → MeansFrom j rs → k ≡ code_from j w rs → k < j + length rs → Found w k rs
unfolding code_from find when◌then◌else◌
found w j k [] m e h = absurd (omega arith)
found w j k (r ∷ rs) m e h = go (same w r.key) refl e (found w (j + 1) k rs m.1)
  where
    go : (b : Bool) → same w r.key ≡ b → k ≡ (when b then j else code_from (j + 1) w rs) → (k ≡ code_from (j + 1) w rs → k < j + 1 + length rs → Found w k rs) → Found w k (r ∷ rs)
    go true b q ih = record { row = r; is = rw (b, find); means = rw q m.0 }
    go false b q ih = found-on w k r rs b (ih q (omega arith))

missed : (w : List ℕ) (j k : ℕ) (rs : List Row) → k ≡ code_from j w rs → j + length rs ≤ k → find w rs ≡ none
unfolding code_from find when◌then◌else◌
missed w j k [] e h = refl
missed w j k (r ∷ rs) e h = go (same w r.key) refl e (missed w (j + 1) k rs)
  where
    go : (b : Bool) → same w r.key ≡ b → k ≡ (when b then j else code_from (j + 1) w rs) → (k ≡ code_from (j + 1) w rs → j + 1 + length rs ≤ k → find w rs ≡ none) → find w (r ∷ rs) ≡ none
    go true b q ih = absurd (omega arith)
    go false b q ih = rw (b, find) (ih q (omega arith))

module _ (w : List ℕ) (k : ℕ) (e : k ≡ code_from 32 w directives) where
  pub directive-found : k < 38 → Found w k directives
  unfolding directives
  directive-found h = found w 32 k directives each-directive e h

  pub directive-missed : 38 ≤ k → find w directives ≡ none
  unfolding directives
  directive-missed h = missed w 32 k directives e h
