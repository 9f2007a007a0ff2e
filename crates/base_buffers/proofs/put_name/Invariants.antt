-- `base_buffers::put_name` copies a slice into another. Assumes nothing.
use Prim.Native.Nat.{◌-◌}
use lib.ListN.{length}
use Rattle.base_buffers.proofs.Pasted.{Pasted}
use Rattle.base_buffers.proofs.put_name.Given as goal

abbrev pub invariant-loop-i : goal.invariant-loop-i
invariant-loop-i l = Pasted l.initial.dst l.at l.src l.dst l.i

abbrev pub decreases-loop-i : goal.decreases-loop-i
decreases-loop-i l = length l.src - l.i
