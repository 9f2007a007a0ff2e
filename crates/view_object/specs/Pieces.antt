-- The view of an object in pieces: the heading, each word with what stands before it, each label that is at no word. Rows are read as the rules read them: past a
-- buffer's end there are zeros. Assumes nothing.
use Rattle.std.specs.Prelude.{ℕ, zero, suc, ◌+◌, ◌-◌, ◌*◌, ◌%◌, min, Bool, true, false, not, List, [], ◌++◌, ◌==◌, nat_lt, slice_index}
use Rattle.std.proofs.Math.Option.{Option, none, some}
use Rattle.rules.specs.Base.{when◌then◌else◌, bytes}
use Rattle.rules.specs.Words.{offset}
use Rattle.rules.specs.Objects.{Counts}
use Rattle.rules.specs.Buffers.{Buffers, head_row, name_row}
use Rattle.rules.specs.Listing.{lf}
use Rattle.view_text.specs.Texts.{counted, hex_text}
use Rattle.view_word.specs.First.{first}
use Rattle.view_word.specs.Labels.{defined_row, last_at, reloc_at, own_lines}
use Rattle.view_word.specs.Words.{set_line, unset_line, waiting_line}

-- THE HEADING: what an object has
unfoldable pub heading : Counts → List ℕ
heading c =
    bytes "ACCEPTED: " ++ counted c.blocks (bytes "block") ++ bytes ", " ++ counted c.words (bytes "word") ++ bytes ", " ++ counted c.labels (bytes "label") ++ bytes ", "
    ++ counted c.relocs (bytes "relocation") ++ lf

-- BLOCKS. Where word i stands, in m blocks from row k on, whose words follow one another: its block's start and length, and how many words of it come before
pub record Place : Type 0 where
  pub start : ℕ
  pub size : ℕ
  pub before : ℕ

abbrev pub place : ℕ → ℕ → ℕ → Place
place start size before = record { start = start; size = size; before = before }

unfoldable pub place_from : List ℕ → ℕ → ℕ → ℕ → Option Place
place_from bs k zero i = none
place_from bs k (suc m) i =
    elim (nat_lt i (head_row bs k).1) [ true ↦ some (place (head_row bs k).0 (head_row bs k).1 i) | false ↦ place_from bs (k + 1) m (i - (head_row bs k).1) ]

unfoldable pub place_of : List ℕ → ℕ → ℕ → Option Place
place_of bs n i = place_from bs 0 n i

-- an empty line and the addresses of a block, before its first word
unfoldable pub block_line : ℕ → ℕ → List ℕ
block_line start size = lf ++ bytes "BLOCK " ++ hex_text start ++ bytes " to " ++ hex_text ((start + size + 65535) % 65536) ++ bytes ", " ++ counted size (bytes "word") ++ lf

unfoldable pub above : Place → List ℕ
above p = when p.before == 0 then block_line p.start p.size else []

-- WORDS, by the rows of labels and relocations and the name bytes. A word's own line, where the first relocation at its address is row r; k is the row of the label that it shows
unfoldable pub marked_line : Counts → (ls rs ns : List ℕ) → ℕ → ℕ → ℕ → ℕ → List ℕ
marked_line c ls rs ns k a w r = when nat_lt r c.relocs then waiting_line ls ns c.labels k a (slice_index rs (r * 2 + 1)) else set_line ls ns c.labels k a w

-- by its mark
unfoldable pub word_line : Counts → (ls rs ns : List ℕ) → ℕ → ℕ → ℕ → ℕ → List ℕ
word_line c ls rs ns k a w mark = when mark == 0 then unset_line ls ns c.labels k a else marked_line c ls rs ns k a w (reloc_at rs c.relocs a)

-- the labels at an address, all but the last in lines of their own, and the word's line
unfoldable pub address_lines : Counts → (ls rs ns : List ℕ) → ℕ → ℕ → ℕ → ℕ → List ℕ
address_lines c ls rs ns a w mark k = own_lines ls ns a k c.labels ++ word_line c ls rs ns k a w mark

unfoldable pub address_text : Counts → (ls rs ns : List ℕ) → ℕ → ℕ → ℕ → List ℕ
address_text c ls rs ns a w mark = address_lines c ls rs ns a w mark (last_at ls c.labels a c.labels)

unfoldable pub placed_text : Counts → (ls rs ns : List ℕ) → Place → ℕ → ℕ → List ℕ
placed_text c ls rs ns p w mark = above p ++ address_text c ls rs ns ((p.start + p.before) % 65536) w mark

unfoldable pub word_at : Counts → Buffers → ℕ → Option Place → List ℕ
word_at c b i none = []
word_at c b i (some p) = placed_text c b.labels b.relocs b.names p (slice_index b.words i) (slice_index b.marks i)

unfoldable pub word_text : Counts → Buffers → ℕ → List ℕ
word_text c b i = word_at c b i (place_of b.blocks c.blocks i)

-- LABELS that are at no word: a word stands at an address where it is less than the length past a block's start
unfoldable pub covers : List ℕ → ℕ → ℕ → Bool
covers bs a k = nat_lt (offset a (head_row bs k).0) (head_row bs k).1

unfoldable pub has_word : List ℕ → ℕ → ℕ → Bool
has_word bs n a = nat_lt (first (covers bs a) n) n

unfoldable pub label_address : List ℕ → ℕ → ℕ
label_address ls k = slice_index ls (k * 4) % 65536

-- external, or defined where no word is
unfoldable pub apart : ℕ → List ℕ → List ℕ → ℕ → Bool
apart n bs ls k = when defined_row ls k then not (has_word bs n (label_address ls k)) else true

unfoldable pub external_line : List ℕ → List ℕ
external_line name = bytes "EXTERNAL " ++ name ++ lf

unfoldable pub bare_line : ℕ → List ℕ → List ℕ
bare_line a name = bytes "LABEL " ++ hex_text a ++ bytes " " ++ name ++ bytes ", where no word is" ++ lf

unfoldable pub apart_line : List ℕ → List ℕ → ℕ → List ℕ
apart_line ls ns k = when defined_row ls k then bare_line (label_address ls k) (name_row ls ns k) else external_line (name_row ls ns k)

-- an empty line before the first of them
unfoldable pub gap_before : ℕ → ℕ → List ℕ
gap_before k first_apart = when k == first_apart then lf else []

unfoldable pub label_text : Counts → (bs ls ns : List ℕ) → ℕ → List ℕ
label_text c bs ls ns k = when apart c.blocks bs ls k then gap_before k (first (apart c.blocks bs ls) c.labels) ++ apart_line ls ns k else []

-- PIECES: the heading, the words, the labels; nothing past them
unfoldable pub rest_text : Counts → Buffers → ℕ → List ℕ
rest_text c b i = when nat_lt i c.words then word_text c b i else when nat_lt (i - c.words) c.labels then label_text c b.blocks b.labels b.names (i - c.words) else []

unfoldable pub piece_text : Counts → Buffers → ℕ → List ℕ
piece_text c b zero = heading c
piece_text c b (suc i) = rest_text c b i

-- how many there are, as far as a machine's number can tell
unfoldable pub piece_count : Counts → ℕ
piece_count c = min (1 + c.words + c.labels) 18446744073709551615
