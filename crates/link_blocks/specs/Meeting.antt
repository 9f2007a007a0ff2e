-- Two tables of blocks, by starts and lengths: whether they share an address. Assumes nothing.
use Rattle.std.specs.Prelude.{Bool, List, ℕ, ◌+◌, ◌*◌, ◌≤◌, ◌<◌, length, leb}
use Rattle.rules.specs.Tables.{Table, any}
use Rattle.rules.specs.Passes.{ranges_overlap}
use Rattle.rules.specs.Buffers.{head_row, BlockRow}

-- the first n rows are rows of blocks: by start and without overlap, none empty
pub record BlockRows (n : ℕ) (bs : List ℕ) : Type 0 where
  pub room : n * 2 ≤ length bs
  pub rows : (k : ℕ) → k < n → BlockRow 0 (head_row bs) k

-- the one block ends where the other starts, or before
abbrev pub before : ℕ × ℕ → ℕ × ℕ → Bool
before h g = leb (h.0 + h.1) g.0

-- two blocks share an address
abbrev pub touch : ℕ × ℕ → ℕ × ℕ → Bool
touch h g = ranges_overlap h.0 h.1 g.0 g.1

-- some block of the one table and some block of the other do
unfoldable pub meeting : Table ℕ ℕ → Table ℕ ℕ → Bool
meeting hs gs = any (λ h. any (touch h) gs) hs
