-- The line of a word of an object: its address, itself, its label, its disassembly, and a note on what that reaches or which character the word is. Assumes nothing.
use Rattle.std.specs.Prelude.{ℕ, ◌+◌, ◌%◌, ◌&&◌, List, [], ◌∷◌, ◌++◌, length, nat_le, nat_lt}
use Rattle.std.proofs.Math.Option.{Option, none, some}
use Rattle.rules.specs.Base.{when◌then◌else◌, bytes}
use Rattle.rules.specs.Words.{line}
use Rattle.rules.specs.Listing.{lf}
use Rattle.view_text.specs.Texts.{spaces, gap, padded, hex_text}
use Rattle.view_instruction.specs.Lines.{line_text, line_reach}
use Rattle.view_word.specs.Labels.{label_at, name_text, label_column}

-- the columns of words, instructions and notes
abbrev pub word_column : ℕ
word_column = 7

abbrev pub instruction_column : ℕ
instruction_column = 32

abbrev pub note_column : ℕ
note_column = 52

-- an address, what is shown as its word, and a label's name, up to the column of instructions
unfoldable pub front : ℕ → List ℕ → List ℕ → List ℕ
front a shown name = padded instruction_column (padded label_column (padded word_column (hex_text a) ++ shown) ++ name)

-- the address that an instruction reaches, with its label if it has one
unfoldable pub label_behind : List ℕ → List ℕ → ℕ → ℕ → List ℕ
label_behind ls ns n k = when nat_lt k n then bytes " " ++ name_text ls ns n k else []

unfoldable pub reached_note : List ℕ → List ℕ → ℕ → ℕ → List ℕ
reached_note ls ns n target = bytes "; " ++ hex_text target ++ label_behind ls ns n (label_at ls n target)

-- a character from the space up to the last before DEL
unfoldable pub char_note : ℕ → Option (List ℕ)
char_note w = when nat_le 32 w && nat_lt w 127 then some (bytes "; '" ++ (w ∷ []) ++ bytes "'") else none

-- by how far the word's instruction reaches from the next word
unfoldable pub note_by : List ℕ → List ℕ → ℕ → ℕ → ℕ → Option ℕ → Option (List ℕ)
note_by ls ns n a w (some d) = some (reached_note ls ns n ((a + 1 + d) % 65536))
note_by ls ns n a w none = char_note w

-- a note stands at its column, behind so many bytes of the line
unfoldable pub beside : ℕ → Option (List ℕ) → List ℕ
beside used none = []
beside used (some note) = spaces (gap used note_column) ++ note

unfoldable pub noted : List ℕ → Option (List ℕ) → List ℕ
noted t note = t ++ beside (length t) note

-- THE LINES. A word that is set, with the label of row k of n
unfoldable pub set_line : List ℕ → List ℕ → ℕ → ℕ → ℕ → ℕ → List ℕ
set_line ls ns n k a w = noted (front a (hex_text w) (name_text ls ns n k) ++ line_text (line w)) (note_by ls ns n a w (line_reach (line w))) ++ lf

-- one that a.blkw leaves unset
unfoldable pub unset_line : List ℕ → List ℕ → ℕ → ℕ → ℕ → List ℕ
unset_line ls ns n k a = front a (bytes "-") (name_text ls ns n k) ++ bytes ".blkw, not set" ++ lf

-- one that waits for the address of an external label
unfoldable pub waiting_line : List ℕ → List ℕ → ℕ → ℕ → ℕ → ℕ → List ℕ
waiting_line ls ns n k a outer =
    noted (front a (hex_text 0) (name_text ls ns n k) ++ bytes ".fill " ++ name_text ls ns n outer) (some (bytes "; external, known after a link")) ++ lf
