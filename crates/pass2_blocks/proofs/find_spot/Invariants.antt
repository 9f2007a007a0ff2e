-- `pass2_blocks::find_spot` goes along the rows to where the block belongs. Assumes nothing.
use Rattle.pass2_blocks.specs.Spots.{Passed}
use Rattle.pass2_blocks.proofs.find_spot.Given as goal

abbrev pub invariant-loop-k : goal.invariant-loop-k
invariant-loop-k l = Passed l.blocks l.n l.start l.size l.k l.at
