-- Where a place stands for a person, by the bytes before it: the line is one more than the line feeds among them, the column one more than
-- the bytes behind the last of these. Assumes nothing.
use Rattle.std.specs.Prelude.{ℕ, ◌+◌, ◌-◌, Bool, ◌&&◌, ◌||◌, List, [], ◌∷◌, eqb, length, get_or, take}
use Rattle.rules.specs.Base.{when◌then◌else◌}
use Rattle.rules.specs.Tokens.{line}
use Rattle.base_text.specs.Runs.{from}

-- one for a line feed
unfoldable pub feed : ℕ → ℕ
feed b = when eqb b 10 then 1 else 0

-- the line feeds
unfoldable pub feeds : List ℕ → ℕ
feeds [] = 0
feeds (b ∷ bs) = feed b + feeds bs

-- a line feed begins a line, any other byte stands in it
unfoldable pub moved : ℕ → ℕ → ℕ
moved k b = when eqb b 10 then 0 else k + 1

-- the bytes behind the last line feed, where k stand behind it so far
unfoldable pub since_from : ℕ → List ℕ → ℕ
since_from k [] = k
since_from k (b ∷ bs) = since_from (moved k b) bs

unfoldable pub since : List ℕ → ℕ
since s = since_from 0 s

-- where the line of a place begins
unfoldable pub line_start : List ℕ → ℕ → ℕ
line_start s at = at - since (take at s)

-- where the line ends that begins at a place: before LF or CR LF, or with the source
unfoldable pub line_stop : List ℕ → ℕ → ℕ
line_stop s first = first + length (line (from s first))

-- LF or CR LF stands here
unfoldable pub ends_line : List ℕ → ℕ → Bool
ends_line s i = eqb (get_or s i 0) 10 || (eqb (get_or s i 0) 13 && eqb (get_or s (i + 1) 0) 10)
