-- `lc3_link::link_stored` meets its contract. Assumes nothing.
use Rattle.lc3_link.proofs.Telling.{part_held, part-told, part-refused}
use Rattle.lc3_link.proofs.link_stored.Goals as goal

pub link_second-requires : goal.link_second-requires
link_second-requires c = part_held _ _ (λ i. (c.slice_known-1.given i).fits) _ c.part_of.ensures _ _ c.load-answer.ensures c.if-answer-eq0.true _ c.counts_of-c.ensures

pub returns-then-answer-eq0 : goal.returns-then-answer-eq0
returns-then-answer-eq0 c = part-told _ _ (λ i. (c.slice_known-1.given i).fits) _ c.part_of.ensures _ _ c.load-answer.ensures c.if-answer-eq0.true _ c.counts_of-c.ensures _ _ _ _ _ _ c.link_second.ensures

pub returns : goal.returns
returns c = part-refused _ _ (λ i. (c.slice_known-1.given i).fits) _ c.part_of.ensures _ _ c.load-answer.ensures c.if-answer-eq0.false _ _ _ _ c.clear.ensures c.answer_of.ensures _
