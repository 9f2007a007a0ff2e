-- The texts of numbers and counts, and the spaces up to a column. They are ours, for a terminal. Assumes nothing.
use Rattle.std.specs.Prelude.{ℕ, zero, suc, ◌+◌, ◌-◌, ◌/◌, ◌%◌, max, true, false, List, [], ◌∷◌, ◌++◌, eqb, ltb, length, drop, replicate}
use Rattle.rules.specs.Base.{when◌then◌else◌, bytes}
use Rattle.rules.specs.Listing.{hex4}

-- spaces up to a column, one at least
unfoldable pub spaces : ℕ → List ℕ
spaces n = replicate n 32

abbrev pub gap : ℕ → ℕ → ℕ
gap at column = max (column - at) 1

-- a text, and spaces behind it up to a column
unfoldable pub padded : ℕ → List ℕ → List ℕ
padded column t = t ++ spaces (gap (length t) column)

-- the decimal digits of n, the most significant first: none before the first but where n is 0. The first number is how many steps there are at most.
unfoldable pub digits_in : ℕ → ℕ → List ℕ
digits_in zero n = (48 + n) ∷ []
digits_in (suc f) n = elim (ltb n 10) [ true ↦ (48 + n) ∷ [] | false ↦ digits_in f (n / 10) ++ ((48 + n % 10) ∷ []) ]

unfoldable pub decimal : ℕ → List ℕ
decimal n = digits_in n n

-- a number with what it counts: 1 word, 2 words
unfoldable pub counted : ℕ → List ℕ → List ℕ
counted n what = decimal n ++ bytes " " ++ what ++ (when eqb n 1 then [] else bytes "s")

-- an x and four hexadecimal digits, an x and the last two
unfoldable pub hex_text : ℕ → List ℕ
hex_text v = bytes "x" ++ hex4 v

unfoldable pub hex_text2 : ℕ → List ℕ
hex_text2 v = bytes "x" ++ drop 2 (hex4 v)
