-- `stored::store_made` meets its contract. Assumes nothing.
use Rattle.stored.proofs.Made.{object-stored, handed-on}
use Rattle.stored.proofs.store_made.Goals as goal

pub returns-then-answer-eq0 : goal.returns-then-answer-eq0
returns-then-answer-eq0 c = object-stored _ _ _ _ _ c.if-answer-eq0.true _ c.counts_of-c.ensures c.store.ensures

pub returns : goal.returns
returns c = handed-on _ _ _ _ c.if-answer-eq0.false c.clear.ensures
