-- `link_labels::is_due` meets its contract. Assumes nothing.
use Rattle.link_labels.proofs.Due.{due-past, due-row}
use borrow.Author.Rules.{rules}
use Rattle.link_labels.proofs.is_due.Goals as goal

pub returns-then-n-i : goal.returns-then-n-i
returns-then-n-i c = search (rules, due-past)

pub returns : goal.returns
returns c = search (rules, due-row)
