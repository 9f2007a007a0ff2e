-- `view_due::due_last` meets its contract. Assumes nothing.
use Rattle.view_due.proofs.Dues.{last_line, last-operand}
use borrow.Author.Rules.{rules}
use Rattle.view_due.proofs.due_last.Goals as goal

pub returns-then-place-t : goal.returns-then-place-t
returns-then-place-t c = search (rules, last-operand)

pub returns : goal.returns
returns c = search (rules, last_line)
