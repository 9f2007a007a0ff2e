-- `view_due::label_before` meets its contract. Assumes nothing.
use Rattle.view_due.proofs.Dues.{before-is}
use borrow.Author.Rules.{rules}
use Rattle.view_due.proofs.label_before.Goals as goal

pub returns : goal.returns
returns c = search (rules, before-is)
