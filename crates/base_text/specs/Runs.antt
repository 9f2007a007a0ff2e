-- Runs of bytes of a class. Assumes nothing.
use Rattle.std.specs.Prelude.{ℕ, ◌+◌, Bool, not, ◌||◌, List, ltb, eqb, length, drop}
use Rattle.rules.specs.Tokens.{digit, wordy, space, while}
use Rattle.base_text.specs.declared.Class.{Class}
use Rattle.base_text.specs.declared.Class.TheVariants.{Word, Digit, Space, Hash, Line, Ascii, Plain}

-- no quote, no backslash, no LF and no CR
unfoldable pub plain : ℕ → Bool
plain b = not (eqb b 34 || eqb b 92 || eqb b 10 || eqb b 13)

-- the classes of which a source has runs; Line is every byte but the line feed, Plain what stands for itself in a string
unfoldable pub in_class : Class → ℕ → Bool
in_class Word b = wordy b
in_class Digit b = digit b
in_class Space b = space b
in_class Hash b = eqb b 35
in_class Line b = not (eqb b 10)
in_class Ascii b = ltb b 128
in_class Plain b = plain b

-- what is left of a list from a place on
module _ {A : Type 0} where
  unfoldable pub from : List A → ℕ → List A
  from s i = drop i s

-- where the longest run of bytes of the class from a place ends
unfoldable pub run_end : Class → List ℕ → ℕ → ℕ
run_end k s at = at + length (while (in_class k) (from s at))
