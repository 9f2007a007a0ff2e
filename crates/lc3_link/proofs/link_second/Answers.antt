-- `lc3_link::link_second` meets its contract. Assumes nothing.
use Rattle.lc3_link.proofs.Telling.{loaded-held, second-told, second-refused}
use Rattle.lc3_link.proofs.link_second.Goals as goal

pub link_objects-requires : goal.link_objects-requires
link_objects-requires c = record { held = c.requires; held_2 = loaded-held _ (λ i. (c.type_inv.second i).fits) _ _ c.load-loaded.ensures c.if-loaded-eq0.true _ c.counts_of-c.ensures }

pub returns-then-loaded-eq0 : goal.returns-then-loaded-eq0
returns-then-loaded-eq0 c = second-told _ (λ i. (c.type_inv.second i).fits) _ _ c.load-loaded.ensures c.if-loaded-eq0.true _ c.counts_of-c.ensures _ _ _ _ _ _ c.link_objects.ensures

pub returns : goal.returns
returns c = second-refused _ (λ i. (c.type_inv.second i).fits) _ _ c.load-loaded.ensures c.if-loaded-eq0.false _ _ _ _ c.clear.ensures c.answer_of.ensures _
