-- The words of blocks with relocations settled: where the word of an address stands, and what is written there. Assumes nothing.
use Rattle.std.specs.Prelude.{Bool, List, [], ◌∷◌, ℕ, suc, ◌+◌, ◌-◌, ◌*◌, ◌≤◌, ◌<◌, length, get_or, set, ltb, leb, eqb}
use Rattle.rules.specs.Base.{when◌then◌else◌}
use Rattle.rules.specs.Capacities.{word_room}
use Rattle.rules.specs.Tables.{Table}
use Rattle.rules.specs.Buffers.{head_row, sum_of}
use Rattle.link_notes.specs.Notes.{open_mark, carried}
use Rattle.link_blocks.specs.Meeting.{BlockRows}

-- where the word of address x stands among the words of blocks, by their starts and lengths: in the first block that ends above it
unfoldable pub place_of : Table ℕ ℕ → ℕ → ℕ
place_of [] x = 0
place_of (h ∷ hs) x = when ltb x (h.0 + h.1) then x - h.0 else h.1 + place_of hs x

-- an address as word p, unless there is none
unfoldable pub settled_word : List ℕ → (p address : ℕ) → List ℕ
settled_word ws p address = when eqb address open_mark then ws else set ws p address

-- the relocations, each beside the note of its label, settled one after another
unfoldable pub settled_words : Table ℕ ℕ → List ℕ → Table ℕ (ℕ × ℕ) → List ℕ
settled_words hs ws [] = ws
settled_words hs ws (r ∷ rs) = settled_words hs (settled_word ws (place_of hs r.0) r.1.1) rs

-- one of n blocks has the address
pub record Inside (n : ℕ) (bs : List ℕ) (x : ℕ) : Type 0 where
  pub row : ℕ
  pub within : row < n
  pub from : (head_row bs row).0 ≤ x
  pub to : x < (head_row bs row).0 + (head_row bs row).1

-- n relocations by address, each within a block, with the note of its label, and the words of nb blocks
pub record SettleReady (n : ℕ) (rs notes : List ℕ) (nb : ℕ) (bs ws : List ℕ) : Type 0 where
  pub room : n * 2 ≤ length rs
  pub noted : (k : ℕ) → k < n → get_or rs (k * 2 + 1) 0 * 2 + 1 < length notes
  pub low : (k : ℕ) → k < n → (carried rs notes k).1.1 ≤ open_mark
  pub up : (k : ℕ) → suc k < n → get_or rs (k * 2) 0 < get_or rs (suc k * 2) 0
  pub rows : BlockRows nb bs
  pub inside : (k : ℕ) → k < n → Inside nb bs (get_or rs (k * 2) 0)
  pub held : sum_of (head_row bs) nb ≤ length ws

-- a block ends at the address of relocation k, or before
unfoldable pub ends_before : List ℕ → ℕ → List ℕ → ℕ → Bool
ends_before bs row rs k = leb ((head_row bs row).0 + (head_row bs row).1) (get_or rs (k * 2) 0)

-- the place of its word in a block with so many words before it
unfoldable pub word_place : List ℕ → (row passed : ℕ) → List ℕ → ℕ → ℕ
word_place bs row passed rs k = passed + (get_or rs (k * 2) 0 - (head_row bs row).0)

-- the block does not start behind it
pub record WordAt (bs : List ℕ) (row passed : ℕ) (rs : List ℕ) (k : ℕ) : Type 0 where
  pub block : row * 2 + 1 < length bs
  pub relocation : k * 2 + 1 < length rs
  pub start : (head_row bs row).0 ≤ get_or rs (k * 2) 0
  pub few : passed ≤ word_room
