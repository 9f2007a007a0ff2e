-- A number's reading, with the place where it stopped. Assumes nothing.
use Rattle.std.specs.Prelude.{ℕ, ◌+◌, ◌*◌, List, [], ◌∷◌, eqb, leb, ltb}
use Rattle.rules.specs.Base.{when◌then◌else◌}
use Rattle.rules.specs.Tokens.{wordy, value, Form, Found, token, bad}
use Rattle.lex_literals.specs.declared.Reading.{Reading}
use Rattle.lex_literals.specs.declared.Reading.TheVariants.{Good, Empty, Wrong, Over}

-- the word characters from `at` end at `e`
unfoldable pub stopped : (at e n : ℕ) → Reading
stopped at e n = when eqb e at then Empty else Good n e

-- The number is n up to place i. At each character a wrong digit is refused before an overflow is.
unfoldable pub number_from : (base bound at i n : ℕ) → List ℕ → Reading
number_from base bound at i n [] = stopped at i n
number_from base bound at i n (c ∷ s) =
    when leb base (value c) then (when wordy c then Wrong i else stopped at i n)
    else when ltb bound (n * base + value c) then Over i
    else number_from base bound at (i + 1) (n * base + value c) s

-- what a reading means of a number written in this form
unfoldable pub meant_by : Form → Reading → Found
meant_by f (Good n e) = token (f.kind n)
meant_by f Empty = bad f.none
meant_by f (Wrong i) = bad f.wrong
meant_by f (Over i) = bad f.over
