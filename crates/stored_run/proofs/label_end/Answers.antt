-- `stored_run::label_end` meets its contract: a field by its tag, or none. Assumes nothing.
use borrow.Author.Rules.{rules}
use Rattle.stored_read.proofs.Found.{says-found}
use Rattle.stored_run.proofs.Names.{ends-none}
use Rattle.stored_run.proofs.label_end.Goals as goal

pub field_end-requires : goal.field_end-requires
field_end-requires c = search (rules, says-found)

pub returns-in-Over : goal.returns-in-Over
returns-in-Over c = ends-none

pub returns-in-CutShort : goal.returns-in-CutShort
returns-in-CutShort c = ends-none
