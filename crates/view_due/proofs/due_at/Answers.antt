-- `view_due::due_at` meets its contract. Assumes nothing.
use Rattle.view_due.proofs.Dues.{at-behind, at-directive, at-statement}
use borrow.Author.Rules.{rules}
use Rattle.view_due.proofs.due_at.Goals as goal

pub returns-then-t-place : goal.returns-then-t-place
returns-then-t-place c = search (rules, at-behind)

pub returns-then-t-eq-DIRECTIVE : goal.returns-then-t-eq-DIRECTIVE
returns-then-t-eq-DIRECTIVE c = search (rules, at-directive)

pub returns : goal.returns
returns c = search (rules, at-statement)
