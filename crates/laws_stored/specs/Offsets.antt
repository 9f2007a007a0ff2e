-- Numbers and parts of stored bytes, by their offset. Assumes nothing.
use Rattle.std.specs.Prelude.{List, [], ◌∷◌, ℕ, zero, suc, ◌+◌, ◌*◌, take, drop, get_or}

-- all numbers are two bytes, big-endian
abbrev pub number_at : List ℕ → ℕ → ℕ
number_at b i = get_or b i 0 * 256 + get_or b (i + 1) 0

-- n numbers, one behind the other
unfoldable pub numbers_at : List ℕ → ℕ → ℕ → List ℕ
numbers_at b i zero = []
numbers_at b i (suc n) = number_at b i ∷ numbers_at b (i + 2) n

-- n bytes
unfoldable pub part_at : List ℕ → ℕ → ℕ → List ℕ
part_at b i n = take n (drop i b)

-- of a field at an offset: how long its content is, and where the next one begins
abbrev pub length_at : List ℕ → ℕ → ℕ
length_at b at = number_at b (at + 1)

abbrev pub next_at : List ℕ → ℕ → ℕ
next_at b at = at + 3 + length_at b at
