-- `parse::next_statement` meets its contract. Assumes nothing.
use Rattle.parse.proofs.Heads.{head-row, head-less}
use borrow.Author.Rules.{rules}
use Rattle.parse.proofs.next_statement.Goals as goal

pub returns-then-code-lt-ROWS : goal.returns-then-code-lt-ROWS
returns-then-code-lt-ROWS c = search (rules, head-row)

pub returns : goal.returns
returns c = search (rules, head-less)
