-- A text put into a lent buffer from a place on; what does not fit is left out. Assumes nothing.
use Rattle.std.specs.Prelude.{ℕ, ◌+◌, ◌-◌, ◌≡◌, List, length, take}
use Rattle.list_lines.specs.Appended.{written}

-- what of t fits into b from `at` on; nothing where `at` is past the end
unfoldable pub fitting : List ℕ → ℕ → List ℕ → List ℕ
fitting b at t = take (length b - at) t

-- the buffer was b₀ and is b: what fits of t stands in it from `at` up to `end`, all else is as it was
pub record Put (b₀ b : List ℕ) (at end : ℕ) (t : List ℕ) : Type 0 where
  pub here : b ≡ written b₀ at (fitting b₀ at t)
  pub stop : end ≡ at + length (fitting b₀ at t)
