-- `object_check_blocks::check_cells` meets its contract. Assumes nothing.
use Rattle.rules.specs.Buffers.{WordRow}
use Rattle.object_check_blocks.proofs.Words.{PartTo}
use Rattle.object_check_blocks.proofs.check_cells.Given as goal

abbrev pub invariant-loop-i : goal.invariant-loop-i
invariant-loop-i l = PartTo (WordRow l.words l.marks) l.at l.stop l.good l.i
