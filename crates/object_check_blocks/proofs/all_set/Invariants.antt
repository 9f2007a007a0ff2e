-- `object_check_blocks::all_set` meets its contract. Assumes nothing.
use Rattle.object_check_blocks.specs.Places.{Marked}
use Rattle.object_check_blocks.proofs.Words.{PartTo}
use Rattle.object_check_blocks.proofs.all_set.Given as goal

abbrev pub invariant-loop-i : goal.invariant-loop-i
invariant-loop-i l = PartTo (Marked l.marks) l.at l.stop l.set l.i
