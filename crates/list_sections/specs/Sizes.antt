-- The size of a line, and of some lines together. Assumes nothing.
use Rattle.std.specs.Prelude.{ℕ, ◌*◌, ◌≤◌, ◌≡◌, List, length}

-- n is how long a line is, which is at most 76 bytes
pub record Sized (n : ℕ) (l : List ℕ) : Type 0 where
  pub size : n ≡ length l
  pub small : n ≤ 76

-- n is how long at most `count` lines together are
pub record SizedAll (count n : ℕ) (l : List ℕ) : Type 0 where
  pub size : n ≡ length l
  pub small : n ≤ count * 76
