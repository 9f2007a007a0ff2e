-- `parse_labels::walk_labels` meets its contract. Assumes nothing.
use Prim.Native.Nat.{◌-◌}
use lib.ListN.{length}
use Rattle.parse_labels.proofs.Labelled.{Walking}
use Rattle.parse_labels.proofs.walk_labels.Given as goal

abbrev pub invariant-loop-i : goal.invariant-loop-i
invariant-loop-i l = Walking l.src l.at l.i l.labelled l.colon

abbrev pub decreases-loop-i : goal.decreases-loop-i
decreases-loop-i l = length l.src - l.i
