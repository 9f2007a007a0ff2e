-- Which object has the row that is due, by notes; the label that a note says; what laying asks. Assumes nothing.
use Rattle.std.specs.Prelude.{Bool, true, false, ◌&&◌, List, ℕ, ◌+◌, ◌*◌, ◌≤◌, ◌<◌, length, eqb, ltb}
use Rattle.rules.specs.Base.{when◌then◌else◌}
use Rattle.rules.specs.Capacities.{label_room}
use Rattle.rules.specs.Objects.{Lab, outer, defined}
use Rattle.rules.specs.Buffers.{name_row, LabelsOk}
use Rattle.object_layout_labels.specs.Laying.{RowRoom, LabelRoom}
use Rattle.link_notes.specs.Notes.{open_mark, note_row, Noted}
use Rattle.link_labels.specs.Matching.{both_labels}
use Rattle.link_labels.specs.declared.Side.{Side}
use Rattle.link_labels.specs.declared.Side.TheVariants.{First, Second, Both, Over}

-- there is a row i of n, and it is noted as row k of the result
unfoldable pub due : ℕ → List ℕ → ℕ → ℕ → Bool
due n xs i k = ltb i n && eqb (note_row xs i).0 k

-- whose row is due
unfoldable pub side_of : Bool → Bool → Side
side_of true true = Both
side_of true false = First
side_of false true = Second
side_of false false = Over

-- the label that a note's address says
unfoldable pub noted_lab : ℕ → Lab
noted_lab x = when eqb x open_mark then outer else defined x

-- the note of row i is there, and room for its label as row k
pub record NotedRoom (rs bs xs : List ℕ) (i : ℕ) (ls ns : List ℕ) (k at : ℕ) : Type 0 where
  pub noted : i * 2 + 1 < length xs
  pub room : RowRoom ls ns k at (name_row rs bs i)

-- what laying asks: both tables as 43 demands them, every row noted, room for the result
pub record LayReady (m : ℕ) (al an xs : List ℕ) (n : ℕ) (bl bn ys ls ns : List ℕ) : Type 0 where
  pub first : LabelsOk m al an
  pub second : LabelsOk n bl bn
  pub first_notes : Noted (both_labels m al an n bl bn) al an m xs
  pub second_notes : Noted (both_labels m al an n bl bn) bl bn n ys
  pub few : length (both_labels m al an n bl bn) ≤ label_room
  pub room : LabelRoom (length (both_labels m al an n bl bn)) ls ns
