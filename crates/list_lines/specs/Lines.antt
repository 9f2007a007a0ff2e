-- The lines of a listing. Assumes nothing.
use Rattle.std.specs.Prelude.{ℕ, ◌+◌}
use mathlib.Core.List.{List, ◌++◌, flat_map}
use Rattle.rules.specs.Base.{bytes}
use Rattle.rules.specs.Buffers.{tab, cell_row}
use Rattle.rules.specs.Objects.{Cell}
use Rattle.rules.specs.Listing.{hex4, cell_text, lf}

-- a word's line, by its address
unfoldable pub cell_line : ℕ × Cell → List ℕ
cell_line c = hex4 c.0 ++ bytes " " ++ cell_text c.1 ++ lf

-- word i of a block that starts at a
abbrev pub cell_from : ℕ → List ℕ → List ℕ → ℕ → ℕ × Cell
cell_from a ws ms i = (a + i, cell_row ws ms i)

-- the lines of the first n words
unfoldable pub cell_lines : ℕ → List ℕ → List ℕ → ℕ → List ℕ
cell_lines a ws ms n = flat_map cell_line (tab n (cell_from a ws ms))

-- a block's first line
unfoldable pub head_line : ℕ → ℕ → List ℕ
head_line a n = bytes "BLOCK " ++ hex4 a ++ bytes " " ++ hex4 n ++ lf
