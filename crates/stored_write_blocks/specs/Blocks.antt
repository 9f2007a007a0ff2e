-- The bytes of a block: its field and its runs. Assumes nothing.
use Rattle.std.specs.Prelude.{ℕ, ◌+◌, ◌*◌, ◌≤◌, ◌<◌, ◌≡◌, List, ◌++◌, length, get_or}
use Rattle.rules.specs.Capacities.{block_room, word_room}
use Rattle.rules.specs.Buffers.{view_blocks}
use Rattle.rules.specs.Stored.{block, spell, block_items}
use Rattle.stored_fields.specs.Fields.{field_of}
use Rattle.stored_write_blocks.specs.Runs.{run_bytes}

-- a block of these words and marks that starts at a
unfoldable pub block_bytes : ℕ → List ℕ → List ℕ → List ℕ
block_bytes a ws ms = field_of (block a (length ws)) ++ run_bytes ws ms

-- the fields of n blocks of w words
unfoldable pub blocks_bytes : ℕ → ℕ → List ℕ → List ℕ → List ℕ → List ℕ
blocks_bytes n w bs ws ms = spell (block_items (view_blocks n w bs ws ms))

-- w marks stand in the buffer, each 0 or 1
pub record MarksOk (w : ℕ) (ms : List ℕ) : Type 0 where
  pub room : w ≤ length ms
  pub low : (i : ℕ) → i < w → get_or ms i 0 ≤ 1

-- r is how many bytes the fields of n blocks of w words have, whatever the words
pub record BlocksSized (n w : ℕ) (bs ms : List ℕ) (r : ℕ) : Type 0 where
  pub size : (ws : List ℕ) → w ≤ length ws → length (blocks_bytes n w bs ws ms) ≡ r
  pub small : r ≤ block_room * (7 + word_room * 5)
