-- The blocks of two objects in one table: their rows, and their words and marks one block after another. Assumes nothing.
use Rattle.std.specs.Prelude.{◌≡◌, Bool, false, ◌&&◌, ◌||◌, List, [], ◌∷◌, ◌++◌, map, ℕ, ◌+◌, ◌*◌, ◌≤◌, length, take, drop, ltb, leb}
use Rattle.rules.specs.Tables.{Table, nat_order, merge, newer}
use Rattle.rules.specs.Objects.{Cell, heads, flat}
use Rattle.rules.specs.Buffers.{tab, head_row, sum_of, zeros, lay, head_cells, word_of, mark_of, view_blocks, BlocksOk, WordsOk}
use Rattle.link_blocks.specs.Meeting.{BlockRows, meeting}

-- the blocks of both objects: na and nb of them, with wa and wb words
unfoldable pub both_blocks : (na wa : ℕ) (a aw am : List ℕ) (nb wb : ℕ) (b bw bm : List ℕ) → Table ℕ (List Cell)
both_blocks na wa a aw am nb wb b bw bm = merge nat_order newer (view_blocks na wa a aw am) (view_blocks nb wb b bw bm)

-- two good tables of blocks that share no address, and room for all
pub record MergeReady (na wa : ℕ) (a aw am : List ℕ) (nb wb : ℕ) (b bw bm blocks words marks : List ℕ) : Type 0 where
  pub rows : BlocksOk na wa a
  pub cells : WordsOk wa aw am
  pub other_rows : BlocksOk nb wb b
  pub other_cells : WordsOk wb bw bm
  pub apart : meeting (tab na (head_row a)) (tab nb (head_row b)) ≡ false
  pub room_blocks : (na + nb) * 2 ≤ length blocks
  pub room_words : wa + wb ≤ length words
  pub room_marks : wa + wb ≤ length marks

-- the blocks t, written at the front of three buffers, with zeros behind
pub record BlocksLaid (t : Table ℕ (List Cell)) (bs ws ms bs' ws' ms' : List ℕ) : Type 0 where
  pub blocks : bs' ≡ lay (head_cells (heads t)) (length bs)
  pub words : ws' ≡ lay (map word_of (flat t)) (length ws)
  pub marks : ms' ≡ lay (map mark_of (flat t)) (length ms)

-- PARTS: what a buffer has of each block, in the order of the blocks

-- the parts of all blocks together
abbrev pub gather : Table ℕ (List ℕ) → List ℕ
gather [] = []
gather (e ∷ t) = e.1 ++ gather t

-- n cells of a buffer, from one on
unfoldable pub part : {A : Type 0} → ℕ → ℕ → List A → List A
part from n l = take n (drop from l)

-- block k: its start, and its own row
abbrev pub row_part : List ℕ → ℕ → ℕ × List ℕ
row_part bs k = ((head_row bs k).0, part (k * 2) 2 bs)

-- and what a buffer of words or marks has of it
abbrev pub word_part : List ℕ → List ℕ → ℕ → ℕ × List ℕ
word_part bs ws k = ((head_row bs k).0, part (sum_of (head_row bs) k) (head_row bs k).1 ws)

-- the rows of both tables, by start
unfoldable pub merged_rows : (na : ℕ) (a : List ℕ) (nb : ℕ) (b : List ℕ) → List ℕ
merged_rows na a nb b = gather (merge nat_order newer (tab na (row_part a)) (tab nb (row_part b)))

-- their words, or their marks, in that order
unfoldable pub merged_parts : (na : ℕ) (a aw : List ℕ) (nb : ℕ) (b bw : List ℕ) → List ℕ
merged_parts na a aw nb b bw = gather (merge nat_order newer (tab na (word_part a aw)) (tab nb (word_part b bw)))

-- when i rows of a and j of b are out, the next is of a
unfoldable pub first_next : (na : ℕ) (a : List ℕ) (nb : ℕ) (b : List ℕ) (i j : ℕ) → Bool
first_next na a nb b i j = ltb i na && (leb nb j || ltb (head_row a i).0 (head_row b j).0)

-- two tables of block rows that share no address
pub record Apart (na : ℕ) (a : List ℕ) (nb : ℕ) (b : List ℕ) : Type 0 where
  pub rows : BlockRows na a
  pub others : BlockRows nb b
  pub apart : meeting (tab na (head_row a)) (tab nb (head_row b)) ≡ false

-- a blank buffer with room for the rows of both
pub record RowsReady (na : ℕ) (a : List ℕ) (nb : ℕ) (b blocks : List ℕ) : Type 0 where
  pub tables : Apart na a nb b
  pub room : (na + nb) * 2 ≤ length blocks
  pub blank : blocks ≡ zeros (length blocks)

-- and for the words, or the marks, of both
pub record PartsReady (na : ℕ) (a aw : List ℕ) (nb : ℕ) (b bw buffer : List ℕ) : Type 0 where
  pub tables : Apart na a nb b
  pub held : sum_of (head_row a) na ≤ length aw
  pub other_held : sum_of (head_row b) nb ≤ length bw
  pub room : sum_of (head_row a) na + sum_of (head_row b) nb ≤ length buffer
  pub blank : buffer ≡ zeros (length buffer)
