-- `view_due::due_behind` meets its contract. Assumes nothing.
use Rattle.view_due.proofs.Dues.{behind-none, behind-row}
use borrow.Author.Rules.{rules}
use Rattle.view_due.proofs.due_behind.Goals as goal

pub returns-then-code-lt-ROWS : goal.returns-then-code-lt-ROWS
returns-then-code-lt-ROWS c = search (rules, behind-row)

pub returns : goal.returns
returns c = search (rules, behind-none)
