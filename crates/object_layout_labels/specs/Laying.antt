-- Labels written one behind another. Assumes nothing.
use Rattle.std.specs.Prelude.{◌≡◌, List, [], ◌∷◌, ℕ, ◌+◌, ◌*◌, ◌≤◌, ◌<◌, length, get_or}
use Rattle.std.proofs.Math.Seq.{paste}
use Rattle.rules.specs.Tables.{Table}
use Rattle.rules.specs.Objects.{Lab, Name}
use Rattle.rules.specs.Buffers.{tab, zeros, lay, name_row, name_bytes, label_cells}
use Rattle.object.specs.Slots.{upper_row}

-- a buffer of zeros
pub record Blank (l : List ℕ) : Type 0 where
  pub zero : l ≡ zeros (length l)

-- room for row k and for a name behind `at` bytes
pub record RowRoom (ls ns : List ℕ) (k at : ℕ) (m : List ℕ) : Type 0 where
  pub row : k * 4 + 4 ≤ length ls
  pub place : at + length m ≤ length ns
  pub small : at + length m ≤ 65536

-- the cells of a row: an address, a flag, where a name begins and how long it is
abbrev pub row_cells : ℕ → ℕ → ℕ → ℕ → List ℕ
row_cells a f p n = a ∷ f ∷ p ∷ n ∷ []

-- ls and ns with row k and its name at `at`
pub record PutLabel (ls ns ls' ns' : List ℕ) (k at a f : ℕ) (m : List ℕ) (r : ℕ) : Type 0 where
  pub row : ls' ≡ paste ls (k * 4) (a ∷ f ∷ at ∷ length m ∷ []) 4
  pub bytes : ns' ≡ paste ns at m (length m)
  pub next : r ≡ at + length m

-- rows that an object's labels can be made of: names of at most 64 bytes, the flag 1 beside the address 0
pub record Layable (rs bs : List ℕ) (n : ℕ) : Type 0 where
  pub few : n ≤ 1024
  pub room : n * 4 ≤ length rs
  pub small : (k : ℕ) → k < n → length (name_row rs bs k) ≤ 64
  pub flag : (k : ℕ) → k < n → get_or rs (k * 4 + 1) 0 ≤ 1
  pub outside : (k : ℕ) → k < n → get_or rs (k * 4 + 1) 0 ≡ 1 → get_or rs (k * 4) 0 ≡ 0

pub record LabelRoom (n : ℕ) (ls ns : List ℕ) : Type 0 where
  pub rows : n * 4 ≤ length ls
  pub names : n * 64 ≤ length ns

-- the labels of n rows, their names in upper case
unfoldable pub upper_labels : ℕ → List ℕ → List ℕ → Table Name Lab
upper_labels n rs bs = tab n (upper_row rs bs)

-- ls' and ns' are ls and ns with the table t in its layout
pub record LaidLabels (t : Table Name Lab) (ls ns ls' ns' : List ℕ) : Type 0 where
  pub rows : ls' ≡ lay (label_cells 0 t) (length ls)
  pub names : ns' ≡ lay (name_bytes t) (length ns)
