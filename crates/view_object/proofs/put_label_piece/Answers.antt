-- `view_object::put_label_piece` meets its contract. Assumes nothing.
use Rattle.view_object.proofs.Lines.{label-put, label-none}
use Rattle.view_object.proofs.put_label_piece.Goals as goal

pub returns-then-is_apart : goal.returns-then-is_apart
returns-then-is_apart c = label-put _ _ _ _ _ c.is_apart.ensures c.if-is_apart.true c.apart_row-first.ensures c.put_gap-a.ensures c.put_apart.ensures

pub returns : goal.returns
returns c = label-none _ _ _ _ _ c.is_apart.ensures c.if-is_apart.false
