-- `view_object::put_rest` meets its contract. Assumes nothing.
use Rattle.view_object.proofs.Lines.{rest-word, rest-label, rest-none}
use Rattle.view_object.proofs.put_rest.Goals as goal

pub returns-then-i-c : goal.returns-then-i-c
returns-then-i-c c = rest-word _ _ _ c.if-i-c.true c.put_word_piece.ensures

pub returns-then-k-c : goal.returns-then-k-c
returns-then-k-c c = rest-label _ _ _ c.if-i-c.false c.if-k-c.true c.put_label_piece.ensures

pub returns : goal.returns
returns c = rest-none _ _ _ c.if-i-c.false c.if-k-c.false
