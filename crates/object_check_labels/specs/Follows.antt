-- The rules of label rows, apart. Assumes nothing.
use Rattle.std.specs.Prelude.{◌≡◌, List, ℕ, suc, ◌≤◌, ◌<◌}
use Rattle.rules.specs.Tables.{Before}
use Rattle.rules.specs.Buffers.{name_row, LabelRow}

-- an address and an external flag that belong together
pub record Flagged (a f : ℕ) : Type 0 where
  pub address : a < 65536
  pub flag : f ≤ 1
  pub outside : f ≡ 1 → a ≡ 0

-- the rows below k keep the rules
pub record RowsTo (ls ns : List ℕ) (k : ℕ) : Type 0 where
  pub rows : (j : ℕ) → j < k → LabelRow ls ns j

-- the name of row k is above that of the row before
pub record Follows (ls ns : List ℕ) (k : ℕ) : Type 0 where
  pub up : (j : ℕ) → suc j ≡ k → Before (name_row ls ns j) (name_row ls ns k)
