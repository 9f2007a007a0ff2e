-- `test_replay::as_asked` meets its contract. Assumes nothing.
use Rattle.test_replay.proofs.Holding.{asked-other, asked-refusal, asked-object}
use Rattle.test_replay.proofs.as_asked.Goals as goal

pub returns-then-got-eq0 : goal.returns-then-got-eq0
returns-then-got-eq0 c = asked-object _ _ _ _ c.same_answer.ensures _ c.if-same_answer.true c.if-got-eq0.true c.counts_of.ensures c.listed_right.ensures

pub returns-then-same_answer : goal.returns-then-same_answer
returns-then-same_answer c = asked-refusal _ _ _ _ c.same_answer.ensures c.if-same_answer.true c.if-got-eq0.false

pub returns : goal.returns
returns c = asked-other _ _ _ _ c.same_answer.ensures c.if-same_answer.false
