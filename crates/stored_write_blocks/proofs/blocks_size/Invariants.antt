-- `stored_write_blocks::blocks_size` meets its contract. Assumes nothing.
use Rattle.stored_write_blocks.proofs.Blocks.{BlocksSummed}
use Rattle.stored_write_blocks.proofs.blocks_size.Given as goal

abbrev pub invariant-loop-k : goal.invariant-loop-k
invariant-loop-k l = BlocksSummed l.n l.w l.blocks l.marks l.k l.first l.size
