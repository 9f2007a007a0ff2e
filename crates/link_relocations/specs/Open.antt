-- Which relocations of two objects stay open in their link, and the cells of their rows. Assumes nothing.
use Rattle.std.specs.Prelude.{◌≡◌, Bool, true, false, List, [], ◌∷◌, ℕ, suc, ◌+◌, ◌*◌, ◌≤◌, ◌<◌, eqb, length, get_or}
use Rattle.std.proofs.Math.Option.{Option, none, some}
use Rattle.rules.specs.Base.{when◌then◌else◌}
use Rattle.rules.specs.Tables.{Table, nat_order, merge, newer, sieve}
use Rattle.base_buffers.specs.Rows.{with_row}
use Rattle.link_notes.specs.Notes.{open_mark, carried, carried_rows}

-- a relocation stays where its name has no address in the result
abbrev pub kept_if : {A : Type 0} → Bool → A → Option A
kept_if true a = some a
kept_if false a = none

abbrev pub is_open : ℕ × ℕ → Bool
is_open v = eqb v.1 open_mark

unfoldable pub open_rows : Table ℕ (ℕ × ℕ) → Table ℕ (ℕ × ℕ)
open_rows t = sieve (λ v. kept_if (is_open v) v) t

-- both tables of relocations in one, each beside its note
unfoldable pub both_rows : ℕ → List ℕ → List ℕ → ℕ → List ℕ → List ℕ → Table ℕ (ℕ × ℕ)
both_rows n rs ns m qs os = merge nat_order newer (carried_rows n rs ns) (carried_rows m qs os)

-- of each relocation its address and the row that its note has
abbrev pub row_cells : Table ℕ (ℕ × ℕ) → List ℕ
row_cells [] = []
row_cells (e ∷ t) = e.0 ∷ e.1.0 ∷ row_cells t

-- the table out after a relocation, which is written as row k if it is open; and the row after it
unfoldable pub put_open : ℕ × (ℕ × ℕ) → ℕ → List ℕ → List ℕ
put_open e k out = when is_open e.1 then with_row out k e.0 e.1.0 else out

unfoldable pub row_after : ℕ × (ℕ × ℕ) → ℕ → ℕ
row_after e k = when is_open e.1 then k + 1 else k

-- n rows of relocations that rise by address, and a note for the label of each
pub record Carried (n : ℕ) (rs ns : List ℕ) : Type 0 where
  pub room : n * 2 ≤ length rs
  pub noted : (k : ℕ) → k < n → get_or rs (k * 2 + 1) 0 * 2 + 1 < length ns
  pub up : (k : ℕ) → suc k < n → get_or rs (k * 2) 0 < get_or rs (suc k * 2) 0

-- relocation i has its note, and row k of a table is there if it stays open
pub record Placed (rs ns : List ℕ) (i : ℕ) (out : List ℕ) (k : ℕ) : Type 0 where
  pub row : i * 2 + 1 < length rs
  pub noted : get_or rs (i * 2 + 1) 0 * 2 + 1 < length ns
  pub room : is_open (carried rs ns i).1 ≡ true → k * 2 + 1 < length out
  pub few : k ≤ 2048

-- no address stands in both tables
pub record Apart (n : ℕ) (rs : List ℕ) (m : ℕ) (qs : List ℕ) : Type 0 where
  pub at : (i j : ℕ) → i < n → j < m → get_or rs (i * 2) 0 ≡ get_or qs (j * 2) 0 → ⊥

-- what merging two tables into a third asks: both are such tables, apart, and those that stay open have room
pub record Both (n : ℕ) (rs ns : List ℕ) (m : ℕ) (qs os out : List ℕ) : Type 0 where
  pub first : Carried n rs ns
  pub second : Carried m qs os
  pub apart : Apart n rs m qs
  pub few : n + m ≤ 2048
  pub room : length (open_rows (both_rows n rs ns m qs os)) * 2 ≤ length out

-- the first table is next: the second has no row left, or one further up
pub record Next (n : ℕ) (rs : List ℕ) (i m : ℕ) (qs : List ℕ) (j : ℕ) : Type 0 where
  pub here : i < n
  pub first : j < m → get_or rs (i * 2) 0 < get_or qs (j * 2) 0
