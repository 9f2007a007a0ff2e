-- `stored_walk::step_end` meets its contract: a law for each return. Assumes nothing.
use Rattle.stored_walk.proofs.Ending.{end_whole, end-behind, end_refused}
use Rattle.stored_walk.proofs.step_end.Goals as goal

pub returns-then-end-bytes : goal.returns-then-end-bytes
returns-then-end-bytes c = end_whole _ _ _ _ c.requires c.if-start-end.true c.if-end-bytes.true

pub returns-then-start-end : goal.returns-then-start-end
returns-then-start-end c = end-behind _ _ _ _ c.requires c.if-start-end.true c.if-end-bytes.false

pub returns : goal.returns
returns c = end_refused _ _ _ _ c.requires c.if-start-end.false
