-- What lines begin with, and the text of a block. Assumes nothing.
use Rattle.std.specs.Prelude.{ℕ, List, ◌++◌, length}
use Rattle.rules.specs.Base.{bytes}
use Rattle.rules.specs.Listing.{hex4}
use Rattle.list_lines.specs.Lines.{cell_lines, head_line}

unfoldable pub label_front : ℕ → List ℕ
label_front a = bytes "LABEL " ++ hex4 a ++ bytes " "

unfoldable pub reloc_front : ℕ → List ℕ
reloc_front a = bytes "REL " ++ hex4 a ++ bytes " "

-- a block of these words and marks that starts at a
unfoldable pub block_text : ℕ → List ℕ → List ℕ → List ℕ
block_text a ws ms = head_line a (length ws) ++ cell_lines a ws ms (length ws)
