-- `stored_write_blocks::put_runs` meets its contract. Assumes nothing.
use Prim.Native.Nat.{◌-◌}
use lib.ListN.{length}
use Rattle.stored_write_blocks.proofs.Runs.{RunsOut}
use Rattle.stored_write_blocks.proofs.put_runs.Given as goal

abbrev pub invariant-loop-i : goal.invariant-loop-i
invariant-loop-i l = RunsOut l.words l.marks l.initial.out l.out l.at l.end l.i

abbrev pub decreases-loop-i : goal.decreases-loop-i
decreases-loop-i l = length l.marks - l.i
