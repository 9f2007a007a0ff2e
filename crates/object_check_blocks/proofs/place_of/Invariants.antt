-- `object_check_blocks::place_of` meets its contract. Assumes nothing.
use Rattle.object_check_blocks.proofs.Seeking.{Seeking}
use Rattle.object_check_blocks.proofs.place_of.Given as goal

abbrev pub invariant-loop-k : goal.invariant-loop-k
invariant-loop-k l = Seeking l.n l.blocks l.x l.k l.sum
