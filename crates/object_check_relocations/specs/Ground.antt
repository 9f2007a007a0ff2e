-- What the check of relocations stands on. Assumes nothing.
use Rattle.std.specs.Prelude.{◌≡◌, List, ℕ, suc, ◌*◌, ◌≤◌, ◌<◌, length, get_or}
use Rattle.rules.specs.Buffers.{BlocksOk, WordsOk}

-- blocks and words that passed their check, and room for the label rows
pub record Ground (nb w m : ℕ) (bs ws ms ls : List ℕ) : Type 0 where
  pub blocks : BlocksOk nb w bs
  pub words : WordsOk w ws ms
  pub labels : m * 4 ≤ length ls

-- row k lies above the row before
pub record Rises (rs : List ℕ) (k : ℕ) : Type 0 where
  pub up : (j : ℕ) → suc j ≡ k → get_or rs (j * 2) 0 < get_or rs (k * 2) 0
