-- The symbols that stand in rows of address, external flag, and the name's start and length in the source; behind the rows the keys of the names. Assumes nothing.
use Rattle.std.specs.Prelude.{◌≡◌, List, ℕ, ◌+◌, ◌*◌, ◌≤◌, ◌<◌, length, get_or}
use Rattle.rules.specs.Base.{span}
use Rattle.rules.specs.Tables.{Table, Before, insert, newer, name_order}
use Rattle.rules.specs.Objects.{Name}
use Rattle.rules.specs.Passes.{Symbol, symbol}
use Rattle.rules.specs.Buffers.{tab, Up, lab_from}
use Rattle.base_keys.specs.Keys.{key_of}
use Rattle.parse_labels.specs.Names.{name_from}

-- a name with what it is and its place
abbrev pub entry : List ℕ → (address flag start size : ℕ) → Name × Symbol
entry src a f s l = (name_from src s l, symbol (lab_from a f) (span s (s + l)))

abbrev pub symbol_row : List ℕ → List ℕ → ℕ → Name × Symbol
symbol_row rs src k = entry src (get_or rs (k * 4) 0) (get_or rs (k * 4 + 1) 0) (get_or rs (k * 4 + 2) 0) (get_or rs (k * 4 + 3) 0)

unfoldable pub symbols : ℕ → List ℕ → List ℕ → Table Name Symbol
symbols n rs src = tab n (symbol_row rs src)

-- the key of row k, in two cells behind 1,024 rows, the lower half first
abbrev pub key_row : List ℕ → ℕ → ℕ
key_row rs k = get_or rs (4096 + k * 2) 0 + get_or rs (4096 + k * 2 + 1) 0 * 4294967296

-- the cells of a row: an address of two bytes, 0 beside the flag 1, and a name of at most 64 bytes inside the source
pub record Cells (src : List ℕ) (a f s l : ℕ) : Type 0 where
  pub address : a < 65536
  pub flag : f ≤ 1
  pub outside : f ≡ 1 → a ≡ 0
  pub place : s + l ≤ length src
  pub small : l ≤ 64

-- n rows by name, each with its key, and room for 1,024
pub record Growing (rs src : List ℕ) (n : ℕ) : Type 0 where
  pub few : n ≤ 1024
  pub room : 6144 ≤ length rs
  pub rows : (k : ℕ) → k < n → Cells src (get_or rs (k * 4) 0) (get_or rs (k * 4 + 1) 0) (get_or rs (k * 4 + 2) 0) (get_or rs (k * 4 + 3) 0)
  pub up : Up name_order n (symbol_row rs src)
  pub keys : (k : ℕ) → k < n → key_row rs k ≡ key_of (symbol_row rs src k).0

-- row k has its key
pub record KeyedRow (rs src : List ℕ) (k : ℕ) : Type 0 where
  pub within : 4096 + k * 2 + 2 ≤ length rs
  pub key : key_row rs k ≡ key_of (symbol_row rs src k).0

-- p is where the name belongs: the rows before it are below, those from it on above
pub record InsertAt (rs src : List ℕ) (n p a f s l : ℕ) : Type 0 where
  pub table : Growing rs src n
  pub row : Cells src a f s l
  pub within : p ≤ n
  pub new : n < 1024
  pub below : (k : ℕ) → k < p → Before (symbol_row rs src k).0 (name_from src s l)
  pub above : (k : ℕ) → p ≤ k → k < n → Before (name_from src s l) (symbol_row rs src k).0

pub record Inserted (rs src rs' : List ℕ) (n a f s l : ℕ) : Type 0 where
  pub table : Growing rs' src (n + 1)
  pub symbols : symbols (n + 1) rs' src ≡ insert name_order newer (entry src a f s l) (symbols n rs src)
