-- What the loops of the check of words keep. Assumes nothing.
use mathlib.Core.Bool.{Bool}
use mathlib.Core.List.{List}
use Prim.Native.Nat.{ℕ, ◌≤◌, ◌<◌}
use lib.ListN.{length}
use Rattle.rules.specs.Buffers.{WordRow}
use Rattle.object.specs.Decides.{Decides}
use Rattle.object_check_blocks.specs.Places.{Part}

-- a part, up to an index
pub record PartTo (P : ℕ → Type 0) (at stop : ℕ) (good : Bool) (i : ℕ) : Type 0 where
  pub from : at ≤ i
  pub within : i ≤ stop
  pub part : Decides (Part P at i) good

-- all cells, up to an index
pub record WordsTo (ws ms : List ℕ) (w i : ℕ) : Type 0 where
  pub within : i ≤ w
  pub room_words : w ≤ length ws
  pub room_marks : w ≤ length ms
  pub rows : (j : ℕ) → j < i → WordRow ws ms j
