-- `stored_read::part_of` meets its contract: a law for each return. Assumes nothing.
use borrow.Author.Rules.{rules}
use Rattle.stored_read.proofs.Found.{part_none, part_some}
use Rattle.stored_read.proofs.part_of.Goals as goal

pub returns-then-stop-start : goal.returns-then-stop-start
returns-then-stop-start c = search (rules, part_none)

pub returns : goal.returns
returns c = search (rules, part_some)
