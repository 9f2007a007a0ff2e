-- `view_object::put_piece` meets its contract. Assumes nothing.
use Rattle.view_object.proofs.Lines.{piece-first, piece-rest}
use Rattle.view_object.proofs.put_piece.Goals as goal

pub returns-then-p-eq0 : goal.returns-then-p-eq0
returns-then-p-eq0 c = piece-first _ _ _ c.if-p-eq0.true c.put_heading.ensures

pub returns : goal.returns
returns c = piece-rest _ _ _ c.if-p-eq0.false c.put_rest.ensures
