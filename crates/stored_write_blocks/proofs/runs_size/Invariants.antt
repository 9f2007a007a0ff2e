-- `stored_write_blocks::runs_size` meets its contract. Assumes nothing.
use Prim.Native.Nat.{◌-◌}
use lib.ListN.{length}
use Rattle.stored_write_blocks.proofs.Runs.{RunsSummed}
use Rattle.stored_write_blocks.proofs.runs_size.Given as goal

abbrev pub invariant-loop-i : goal.invariant-loop-i
invariant-loop-i l = RunsSummed l.marks l.i l.size

abbrev pub decreases-loop-i : goal.decreases-loop-i
decreases-loop-i l = length l.marks - l.i
