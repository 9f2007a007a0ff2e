-- `object_names::capital_part` meets its contract. Assumes nothing.
use Rattle.object_names.proofs.Plain.{part-start, part-next, part_end}
use borrow.Author.Rules.{rules}
use Rattle.object_names.proofs.capital_part.Goals as goal

pub loop-b-init : goal.loop-b-init
loop-b-init c = part-start _

pub loop-b-preserved : goal.loop-b-preserved
loop-b-preserved c = search (rules, part-next)

pub returns : goal.returns
returns c = search (rules, part_end)
