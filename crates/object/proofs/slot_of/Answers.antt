-- `object::slot_of` meets its contract. Assumes nothing.
use Rattle.object.proofs.Halving.{slot-up, slot-down, slot-hit}
use borrow.Author.Rules.{rules}
use Rattle.object.proofs.slot_of.Goals as goal

pub loop-lo-preserved-in-Less : goal.loop-lo-preserved-in-Less
loop-lo-preserved-in-Less c = search (rules, slot-up)

pub loop-lo-preserved : goal.loop-lo-preserved
loop-lo-preserved c = search (rules, slot-down)

pub returns-in-Equal : goal.returns-in-Equal
returns-in-Equal c = search (rules, slot-hit)
