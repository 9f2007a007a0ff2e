-- `stored_write_blocks::put_blocks` meets its contract. Assumes nothing.
use Rattle.stored_write_blocks.proofs.Blocks.{Blocked}
use Rattle.stored_write_blocks.proofs.put_blocks.Given as goal

abbrev pub invariant-loop-k : goal.invariant-loop-k
invariant-loop-k l = Blocked l.n l.w l.blocks l.words l.marks l.initial.out l.out l.at l.end l.first l.k
