-- Section "Stored form and listing" of document 01, the listing and the listing program. Assumes nothing.
use Rattle.std.specs.Prelude.{ℕ, ◌+◌, ◌/◌, ◌%◌, length, leb, ltb}
use mathlib.Core.List.{List, [], ◌∷◌, ◌++◌, map, flat_map}
use Rattle.rules.specs.Base.{when◌then◌else◌, Outcome, ok, refused, ◌>>=◌, ◌>>◌, require, span, nowhere, bytes}
use Rattle.rules.specs.Capacities.{program_source_room, program_word_room}
use Rattle.rules.specs.Objects.{Cell, unset, word, Lab, outer, defined, Name, Object}
use Rattle.rules.specs.Passes.{assemble}

-- four hexadecimal digits
unfoldable pub hex_digit : ℕ → ℕ
hex_digit n = when ltb n 10 then 48 + n else 55 + n

unfoldable pub hex4 : ℕ → List ℕ
hex4 n = map hex_digit (n / 4096 ∷ n / 256 % 16 ∷ n / 16 % 16 ∷ n % 16 ∷ [])

abbrev pub lf : List ℕ
lf = 10 ∷ []

-- An unset word prints as 0000.
unfoldable pub cell_text : Cell → List ℕ
cell_text unset = bytes "0000"
cell_text (word w) = hex4 w

unfoldable pub word_lines : ℕ → List Cell → List ℕ
word_lines a [] = []
word_lines a (c ∷ cs) = hex4 a ++ bytes " " ++ cell_text c ++ lf ++ word_lines (a + 1) cs

unfoldable pub block_lines : ℕ × List Cell → List ℕ
block_lines b = bytes "BLOCK " ++ hex4 b.0 ++ bytes " " ++ hex4 (length b.1) ++ lf ++ word_lines b.0 b.1

-- Externals print as `EXTERN NAME` in name order among labels,
unfoldable pub label_line : Name × Lab → List ℕ
label_line (n, outer) = bytes "EXTERN " ++ n ++ lf
label_line (n, defined a) = bytes "LABEL " ++ hex4 a ++ bytes " " ++ n ++ lf

-- relocations as `REL ADDR NAME`,
unfoldable pub reloc_line : ℕ × Name → List ℕ
reloc_line r = bytes "REL " ++ hex4 r.0 ++ bytes " " ++ r.1 ++ lf

unfoldable pub listing : Object → List ℕ
listing o = flat_map block_lines o.blocks ++ flat_map label_line o.labels ++ flat_map reloc_line o.relocs

-- 51 exactly when the bytes do not fit
unfoldable pub list : ℕ → Object → Outcome (List ℕ)
list room o = do
  require (leb (length (listing o)) room) 51 nowhere
  ok (listing o)

-- refusals as `REFUSED` and the decimal number, which is below 100
unfoldable pub decimal : ℕ → List ℕ
decimal n = when ltb n 10 then (48 + n) ∷ [] else (48 + n / 10) ∷ (48 + n % 10) ∷ []

unfoldable pub printed : Outcome Object → List ℕ
printed (ok o) = listing o
printed (refused r) = bytes "REFUSED " ++ decimal r.number ++ lf

-- The listing program assembles standard input, of 65,536 bytes at most; a longer input is its refusal 11. It lends 32,768 words.
unfoldable pub assembled : List ℕ → Outcome Object
assembled input = do
  require (leb (length input) program_source_room) 11 (span 0 (length input))
  assemble program_word_room input

unfoldable pub listing_program : List ℕ → List ℕ
listing_program input = printed (assembled input)

unfoldable pub printing : Unit {0}
unfolding when◌then◌else◌ flat_map hex_digit hex4 cell_text word_lines block_lines label_line reloc_line listing list decimal printed assembled listing_program
printing = tt
