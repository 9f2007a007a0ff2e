-- `view_due::due_operand` meets its contract. Assumes nothing.
use Rattle.view_due.proofs.Dues.{due-comma, due-next, due-operand}
use borrow.Author.Rules.{rules}
use Rattle.view_due.proofs.due_operand.Goals as goal

pub returns-then-place-t : goal.returns-then-place-t
returns-then-place-t c = search (rules, due-operand)

pub returns-then-place-comma : goal.returns-then-place-comma
returns-then-place-comma c = search (rules, due-comma)

pub returns : goal.returns
returns c = search (rules, due-next)
