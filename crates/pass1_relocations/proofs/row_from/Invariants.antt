-- `pass1_relocations::row_from` meets its contract. Assumes nothing.
use Prim.Native.Nat.{◌-◌}
use Rattle.pass1_relocations.proofs.Halving.{Between}
use Rattle.pass1_relocations.proofs.row_from.Given as goal

abbrev pub invariant-loop-lo : goal.invariant-loop-lo
invariant-loop-lo l = Between l.rows l.n l.address l.lo l.hi

abbrev pub decreases-loop-lo : goal.decreases-loop-lo
decreases-loop-lo l = l.hi - l.lo
