-- What the lines of relocations ask of their rows. Assumes nothing.
use Rattle.std.specs.Prelude.{ℕ, ◌+◌, ◌*◌, ◌≤◌, ◌<◌, List, length, get_or}
use Rattle.rules.specs.Capacities.{reloc_room}
use Rattle.rules.specs.Buffers.{name_row}

-- n rows stand in the table, and each address is a word's
pub record RelocsLow (n : ℕ) (rs : List ℕ) : Type 0 where
  pub room : n * 2 ≤ length rs
  pub low : (k : ℕ) → k < n → get_or rs (k * 2) 0 < 65536

-- and its label's name is no longer than a name may be
pub record RelocsNamed (n : ℕ) (rs ls ns : List ℕ) : Type 0 where
  pub few : n ≤ reloc_room
  pub room : n * 2 ≤ length rs
  pub short : (k : ℕ) → k < n → length (name_row ls ns (get_or rs (k * 2 + 1) 0)) ≤ 64
