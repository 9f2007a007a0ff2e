-- The quick way to a reserved word: the key of a word, the slot of a key, the row of a slot. Assumes nothing.
use Rattle.std.specs.Prelude.{ℕ, ◌+◌, ◌*◌, ◌/◌, ◌%◌, List, [], ◌∷◌, eqb}
use Rattle.rules.specs.Base.{when◌then◌else◌}
use Rattle.rules.specs.Words.{Row, instructions}

-- a word's bytes as digits of base 256, the first the lowest, and a 1 above the last
unfoldable pub key_of : List ℕ → ℕ
key_of [] = 1
key_of (c ∷ w) = key_of w * 256 + c

-- above the key of every word of at most five bytes
abbrev pub key_bound : ℕ
key_bound = 0x20000000000

-- no two reserved words have the same slot
abbrev pub slot_of : ℕ → ℕ
slot_of k = k * 515841 / 134217728 % 64

-- the first of these words, counted from k, whose slot this is: its key and its code as one number; 0 where there is none
unfoldable pub row_from : ℕ → ℕ → List Row → ℕ
row_from k x [] = 0
row_from k x (r ∷ rs) = when eqb (slot_of (key_of r.key)) x then key_of r.key * 256 + k else row_from (k + 1) x rs

unfoldable pub slot_row : ℕ → ℕ
slot_row x = row_from 0 x instructions
