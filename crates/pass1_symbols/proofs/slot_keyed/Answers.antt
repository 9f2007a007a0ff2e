-- `pass1_symbols::slot_keyed` meets its contract. Assumes nothing.
use Rattle.object.proofs.Halving.{slot-up, slot-down, slot-hit}
use Rattle.pass1_symbols.proofs.Steps.{rising}
use borrow.Author.Rules.{rules}
use Rattle.pass1_symbols.proofs.slot_keyed.Goals as goal

pub loop-lo-preserved-in-Less : goal.loop-lo-preserved-in-Less
loop-lo-preserved-in-Less c = search (rules, slot-up, rising)

pub loop-lo-preserved : goal.loop-lo-preserved
loop-lo-preserved c = search (rules, slot-down, rising)

pub returns-in-Equal : goal.returns-in-Equal
returns-in-Equal c = search (rules, slot-hit, rising)
