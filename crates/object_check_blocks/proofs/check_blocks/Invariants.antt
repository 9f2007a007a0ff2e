-- `object_check_blocks::check_blocks` meets its contract. Assumes nothing.
use Rattle.object_check_blocks.proofs.Blocks.{BlocksTo}
use Rattle.object_check_blocks.proofs.check_blocks.Given as goal

abbrev pub invariant-loop-k : goal.invariant-loop-k
invariant-loop-k l = BlocksTo l.blocks l.n l.k l.end l.sum
