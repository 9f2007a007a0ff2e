-- `view_line::put_between` meets its contract. Assumes nothing.
use Rattle.view_line.proofs.LineTexts.{between_none, between-some}
use borrow.Author.Rules.{rules}
use Rattle.view_line.proofs.put_between.Goals as goal

pub returns-then-a-b : goal.returns-then-a-b
returns-then-a-b c = search (rules, between-some)

pub returns : goal.returns
returns c = search (rules, between_none)
