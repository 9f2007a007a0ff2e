-- `view_object::apart_row` meets its contract. Assumes nothing.
use Rattle.view_object.specs.Pieces.{apart}
use Rattle.view_word.proofs.Seeking.{Seeking}
use Rattle.view_object.proofs.apart_row.Given as goal

abbrev pub invariant-loop-row : goal.invariant-loop-row
invariant-loop-row l = Seeking (apart l.n l.blocks l.labels) l.m l.row
