-- `lc3_link::link_objects` meets its contract. Assumes nothing.
use Rattle.lc3_link.proofs.Telling.{objects-told}
use Rattle.lc3_link.proofs.link_objects.Goals as goal

pub returns : goal.returns
returns c = objects-told _ _ _ _ c.requires.held c.requires.held_2 _ _ c.link-answer.ensures _ _ _ c.put_blamed-named.ensures _ _ _ c.store_made-written.ensures _ c.answer_of.ensures
