-- The table of rows is the rules' table. Assumes nothing.
use Prim.Native.Nat.{ℕ, zero, suc, ◌+◌, ◌-◌, ◌/◌, ◌%◌, ◌≤◌, ◌<◌}
use mathlib.Core.Path.{◌≡◌}
use native.Mathlib.Omega.{arith}
use borrow.Author.Tests.{ne_eqb}
use lib.ListN.{get_or}
use Rattle.rules.specs.Base.{when◌then◌else◌}
use Rattle.rules.proofs.Run.{same_run}
use Rattle.parse_field.specs.declared.Field.{Field}
use Rattle.parse_field.specs.declared.Field.TheVariants.{Text}
use Rattle.parse_rows.specs.declared.Op.{Op}
use Rattle.parse_rows.specs.declared.Op.TheVariants.{Instr}
use Rattle.parse_rows.specs.declared.Row.{Row}
use Rattle.parse_rows.specs.Rows.{table, cells, digits_at, field_at, op_at, row_at}

pub field-rest : (k : ℕ) → (k ≡ 0 → ⊥) → (k ≡ 1 → ⊥) → (k ≡ 2 → ⊥) → (k ≡ 3 → ⊥) → (k ≡ 4 → ⊥) → (k ≡ 5 → ⊥) → (k ≡ 6 → ⊥) → (k ≡ 7 → ⊥) → (k ≡ 8 → ⊥) → (k ≡ 9 → ⊥) → Text ≡ field_at k
unfolding field_at when◌then◌else◌
field-rest k n0 n1 n2 n3 n4 n5 n6 n7 n8 n9 = rw (ne_eqb k 0 n0, ne_eqb k 1 n1, ne_eqb k 2 n2, ne_eqb k 3 n3, ne_eqb k 4 n4, ne_eqb k 5 n5, ne_eqb k 6 n6, ne_eqb k 7 n7, ne_eqb k 8 n8, ne_eqb k 9 n9)

pub op-rest : (i : ℕ) → (i ≡ 32 → ⊥) → (i ≡ 33 → ⊥) → (i ≡ 34 → ⊥) → (i ≡ 35 → ⊥) → (i ≡ 36 → ⊥) → (i ≡ 37 → ⊥) → Instr ≡ op_at i
unfolding op_at when◌then◌else◌
op-rest i n32 n33 n34 n35 n36 n37 = rw (ne_eqb i 32 n32, ne_eqb i 33 n33, ne_eqb i 34 n34, ne_eqb i 35 n35, ne_eqb i 36 n36, ne_eqb i 37 n37)

-- THE LAST ARM OF A MATCH

-- none of the n numbers from a on
abbrev pub Apart : (i a n : ℕ) → Type 0
Apart i a zero = Unit {0}
Apart i a (suc n) = Apart i a n × (i ≡ a + n → ⊥)

above : (i a n : ℕ) → a ≤ i → Apart i a n → a + n ≤ i
above i a zero l h = omega arith
above i a (suc n) l h = let u = above i a n l h.0 in let d : (i ≡ a + n → ⊥) = h.1 in omega (arith, u, d)

pub last_arm : (i a n : ℕ) → a ≤ i → i < a + suc n → Apart i a n → i ≡ a + n
last_arm i a n l m h = omega (arith, above i a n l h)

-- THE DIGITS OF A ROW
module _ (i : ℕ) (l : i < 38) where
  base-digits : digits_at i / 65536 ≡ get_or (cells i) 0 0
  unfolding table cells digits_at
  base-digits = same_run (λ j. digits_at j / 65536) (λ j. get_or (cells j) 0 0) 0 38 tt i (omega arith) (omega arith)

  count-digit : digits_at i / 4096 % 16 ≡ get_or (cells i) 1 0
  unfolding table cells digits_at
  count-digit = same_run (λ j. digits_at j / 4096 % 16) (λ j. get_or (cells j) 1 0) 0 38 tt i (omega arith) (omega arith)

  first-digit : digits_at i / 256 % 16 ≡ get_or (cells i) 2 0
  unfolding table cells digits_at
  first-digit = same_run (λ j. digits_at j / 256 % 16) (λ j. get_or (cells j) 2 0) 0 38 tt i (omega arith) (omega arith)

  second-digit : digits_at i / 16 % 16 ≡ get_or (cells i) 3 0
  unfolding table cells digits_at
  second-digit = same_run (λ j. digits_at j / 16 % 16) (λ j. get_or (cells j) 3 0) 0 38 tt i (omega arith) (omega arith)

  third-digit : digits_at i % 16 ≡ get_or (cells i) 4 0
  unfolding table cells digits_at
  third-digit = same_run (λ j. digits_at j % 16) (λ j. get_or (cells j) 4 0) 0 38 tt i (omega arith) (omega arith)

  pub row_made : (d : ℕ) (o : Op) (f g h : Field) → d ≡ digits_at i → o ≡ op_at i → f ≡ field_at (d / 256 % 16) → g ≡ field_at (d / 16 % 16) → h ≡ field_at (d % 16) → ◌≡◌ {A = Row} (record { op = o; base = d / 65536; count = d / 4096 % 16; first = f; second = g; third = h }) (row_at i)
  unfolding row_at
  row_made d o f g h p q u v w = rw (q, u, v, w, p, base-digits, count-digit, first-digit, second-digit, third-digit)
