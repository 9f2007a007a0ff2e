-- A text written into a buffer at a place, all else as it was. Assumes nothing.
use Rattle.std.specs.Prelude.{ℕ, ◌+◌, ◌≤◌, ◌≡◌, List, ◌++◌, length, take, drop}

unfoldable pub written : List ℕ → ℕ → List ℕ → List ℕ
written b at l = take at b ++ (l ++ drop (at + length l) b)

-- the buffer was b₀ and is b: l stands in it from `at` up to `end`
pub record Appended (b₀ b : List ℕ) (at end : ℕ) (l : List ℕ) : Type 0 where
  pub room : at + length l ≤ length b₀
  pub here : b ≡ written b₀ at l
  pub stop : end ≡ at + length l
  pub size : length b ≡ length b₀
