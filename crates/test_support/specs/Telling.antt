-- The line that tells a difference. Assumes nothing.
use Rattle.std.specs.Prelude.{ℕ, ◌+◌, ◌/◌, ◌%◌, List, [], ◌∷◌, ◌++◌}
use Rattle.rules.specs.Base.{bytes}
use Rattle.rules.specs.Listing.{lf}

-- the last decimal digit of a number
abbrev pub digit_of : ℕ → ℕ
digit_of n = 48 + n % 10

-- the line of a vector by the last six digits of its number
unfoldable pub differs_text : ℕ → List ℕ
differs_text n = bytes "differs: " ++ (digit_of (n / 100000) ∷ digit_of (n / 10000) ∷ digit_of (n / 1000) ∷ digit_of (n / 100) ∷ digit_of (n / 10) ∷ digit_of n ∷ []) ++ lf
