-- `view_due::row_code` meets its contract. Assumes nothing.
use Rattle.view_due.proofs.Dues.{code-directive, code-nameless, code-none, code-reserved}
use borrow.Author.Rules.{rules}
use Rattle.view_due.proofs.row_code.Goals as goal

pub returns-then-t-eq-RESERVED : goal.returns-then-t-eq-RESERVED
returns-then-t-eq-RESERVED c = search (rules, code-reserved)

pub returns-then-t : goal.returns-then-t
returns-then-t c = search (rules, code-directive)

pub returns-then-t-eq-DIRECTIVE : goal.returns-then-t-eq-DIRECTIVE
returns-then-t-eq-DIRECTIVE c = search (rules, code-nameless)

pub returns : goal.returns
returns c = search (rules, code-none)
