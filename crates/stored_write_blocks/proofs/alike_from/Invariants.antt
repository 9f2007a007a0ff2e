-- `stored_write_blocks::alike_from` meets its contract. Assumes nothing.
use Rattle.stored_write_blocks.specs.Runs.{Passed}
use Rattle.stored_write_blocks.proofs.alike_from.Given as goal

abbrev pub invariant-loop-i : goal.invariant-loop-i
invariant-loop-i l = Passed l.mark l.marks l.i
