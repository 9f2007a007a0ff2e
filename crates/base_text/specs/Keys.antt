-- Bytes as one number, the first the highest. Assumes nothing.
use Rattle.std.specs.Prelude.{ℕ, ◌+◌, ◌*◌, List, get_or}

-- two bytes from a place on, four, and eight
unfoldable pub two_at : List ℕ → ℕ → ℕ
two_at s i = get_or s i 0 * 256 + get_or s (i + 1) 0

unfoldable pub four_at : List ℕ → ℕ → ℕ
four_at s i = two_at s i * 65536 + two_at s (i + 2)

unfoldable pub key_at : List ℕ → ℕ → ℕ
key_at s i = four_at s i * 4294967296 + four_at s (i + 4)
