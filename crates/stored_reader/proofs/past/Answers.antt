-- `stored_reader::past` meets its contract: in each arm the field is known. Assumes nothing.
use borrow.Author.Rules.{rules}
use Rattle.stored_reader.proofs.Steps.{behind-found, behind-short, behind-over}
use Rattle.stored_reader.proofs.past.Goals as goal

pub returns-in-Found : goal.returns-in-Found
returns-in-Found c = search (rules, behind-found, c.in-Found.is)

pub returns-in-CutShort : goal.returns-in-CutShort
returns-in-CutShort c = search (rules, behind-short, c.in-CutShort.is)

pub returns-in-Over : goal.returns-in-Over
returns-in-Over c = search (rules, behind-over, c.in-Over.is)
