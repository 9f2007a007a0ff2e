-- The label rows of an object at an address, and their own lines. Rows are read as the rules read them: past a buffer's end there are zeros. Assumes nothing.
use Rattle.std.specs.Prelude.{ℕ, zero, suc, ◌+◌, ◌*◌, Bool, ◌&&◌, List, [], ◌++◌, ◌==◌, nat_eq, nat_lt, slice_index}
use Rattle.rules.specs.Base.{when◌then◌else◌}
use Rattle.rules.specs.Buffers.{name_row}
use Rattle.rules.specs.Listing.{lf}
use Rattle.view_text.specs.Texts.{padded, hex_text}
use Rattle.view_word.specs.First.{first}

-- a row's flag is 0 where its label is defined
unfoldable pub defined_row : List ℕ → ℕ → Bool
defined_row ls k = slice_index ls (k * 4 + 1) == 0

unfoldable pub stands_at : List ℕ → ℕ → ℕ → Bool
stands_at ls a k = defined_row ls k && slice_index ls (k * 4) == a

-- the first of n rows that is defined at an address; n where there is none
abbrev pub label_at : List ℕ → ℕ → ℕ → ℕ
label_at ls n a = first (stands_at ls a) n

-- the last of r rows; n where there is none
unfoldable pub later : List ℕ → ℕ → ℕ → ℕ → ℕ
later ls a r last = when stands_at ls a r then r else last

unfoldable pub last_at : List ℕ → ℕ → ℕ → ℕ → ℕ
last_at ls n a zero = n
last_at ls n a (suc r) = later ls a r (last_at ls n a r)

-- the first of n relocations at an address; n where there is none
unfoldable pub relocates : List ℕ → ℕ → ℕ → Bool
relocates rs a k = slice_index rs (k * 2) == a

abbrev pub reloc_at : List ℕ → ℕ → ℕ → ℕ
reloc_at rs n a = first (relocates rs a) n

-- the name of a row of n; no name past them
unfoldable pub name_text : List ℕ → List ℕ → ℕ → ℕ → List ℕ
name_text ls ns n k = when nat_lt k n then name_row ls ns k else []

-- a label's own line: the address, and the name at the column of labels
abbrev pub label_column : ℕ
label_column = 14

unfoldable pub label_line : ℕ → List ℕ → List ℕ
label_line a name = padded label_column (hex_text a) ++ name ++ lf

-- the lines of r rows at an address but of one row, which the word's own line shows
unfoldable pub own_line : List ℕ → List ℕ → ℕ → ℕ → ℕ → List ℕ
own_line ls ns a shown k = when stands_at ls a k then (when nat_eq k shown then [] else label_line a (name_row ls ns k)) else []

unfoldable pub own_lines : List ℕ → List ℕ → ℕ → ℕ → ℕ → List ℕ
own_lines ls ns a shown zero = []
own_lines ls ns a shown (suc r) = own_lines ls ns a shown r ++ own_line ls ns a shown r
