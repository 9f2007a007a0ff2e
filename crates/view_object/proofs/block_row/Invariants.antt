-- `view_object::block_row` meets its contract. Assumes nothing.
use Rattle.view_object.specs.Pieces.{covers}
use Rattle.view_word.proofs.Seeking.{Seeking}
use Rattle.view_object.proofs.block_row.Given as goal

abbrev pub invariant-loop-row : goal.invariant-loop-row
invariant-loop-row l = Seeking (covers l.blocks l.address) l.n l.row
