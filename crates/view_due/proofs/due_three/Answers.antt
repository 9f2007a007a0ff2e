-- `view_due::due_three` meets its contract. Assumes nothing.
use Rattle.view_due.proofs.Dues.{more-found, more-next}
use borrow.Author.Rules.{rules}
use Rattle.view_due.proofs.due_three.Goals as goal

pub returns-in-Found : goal.returns-in-Found
returns-in-Found c = search (rules, more-found)

pub returns-in-Next : goal.returns-in-Next
returns-in-Next c = search (rules, more-next)
