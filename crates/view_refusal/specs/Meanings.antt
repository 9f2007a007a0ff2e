-- What each refusal means in this program, beside the rules' table of their names. Assumes nothing.
use Rattle.std.specs.Prelude.{ℕ, List, [], ◌∷◌, ◌++◌}
use Prim.Native.String.{String}
use Rattle.rules.specs.Answers.{name_in}
use Rattle.rules.specs.Listing.{lf}
use Rattle.view_places.specs.Names.{filled}

unfoldable pub meanings : List (ℕ × String)
meanings =
    (1, "a number above 65535")
    ∷ (2, "a number below -32768")
    ∷ (3, "a digit that is not hexadecimal")
    ∷ (4, "a digit that is not decimal")
    ∷ (5, "a hexadecimal number without digits")
    ∷ (6, "a decimal number without digits")
    ∷ (7, "a string that is not closed on its line")
    ∷ (8, "a string of more than 65,534 characters")
    ∷ (9, "no such register, they are R0 to R7")
    ∷ (10, "a character that begins no token")
    ∷ (11, "the source is longer than this program takes")
    ∷ (12, "a byte that is not ASCII")
    ∷ (13, "this cannot stand here")
    ∷ (14, "the operand that is due here is missing or of another kind")
    ∷ (15, "a number that does not fit this operand")
    ∷ (16, "a name of more than 64 characters")
    ∷ (20, "a label outside .orig and .end has no address")
    ∷ (21, "a statement outside .orig and .end has no address")
    ∷ (22, "an .orig without its .end")
    ∷ (23, "an .end without its .orig")
    ∷ (24, "an .orig inside a block")
    ∷ (25, "one label at two addresses")
    ∷ (26, "the block runs past xFFFF")
    ∷ (27, "the block runs into the addresses of devices, xFE00 and above")
    ∷ (28, "two blocks share an address")
    ∷ (29, "the label is too far away for this instruction")
    ∷ (30, "an external label has no address here, so there is no offset to it")
    ∷ (31, "no label has this name")
    ∷ (40, "more than 1,024 labels, 1,024 relocations or 64 blocks")
    ∷ (41, "more words than there is room for")
    ∷ (42, "a lent buffer is too short")
    ∷ (43, "the lent buffers hold no object")
    ∷ (50, "the bytes are no stored object from this field on")
    ∷ (51, "the bytes do not fit")
    ∷ []

-- the meaning of a number; empty where the table has none
unfoldable pub meaning : ℕ → List ℕ
meaning n = name_in meanings n

-- as a row of a table: up to its line feed, filled up with spaces
unfoldable pub meaning_row : ℕ → List ℕ
meaning_row n = filled 67 (meaning n ++ lf)
