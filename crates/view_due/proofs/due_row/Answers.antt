-- `view_due::due_row` meets its contract. Assumes nothing.
use Rattle.view_due.proofs.Dues.{row-none, row_one, row-three, row-two}
use borrow.Author.Rules.{rules}
use Rattle.view_due.proofs.due_row.Goals as goal

pub returns-then-row-eq0 : goal.returns-then-row-eq0
returns-then-row-eq0 c = search (rules, row-none)

pub returns-then-row-eq1 : goal.returns-then-row-eq1
returns-then-row-eq1 c = search (rules, row_one)

pub returns-then-row-eq2 : goal.returns-then-row-eq2
returns-then-row-eq2 c = search (rules, row-two)

pub returns : goal.returns
returns c = search (rules, row-three)
