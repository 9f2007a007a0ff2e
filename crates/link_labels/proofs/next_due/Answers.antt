-- `link_labels::next_due` meets its contract. Assumes nothing.
use Rattle.link_labels.proofs.Due.{of-both, of-first, of-second, of_none}
use borrow.Author.Rules.{rules}
use Rattle.link_labels.proofs.next_due.Goals as goal

pub returns-then-second : goal.returns-then-second
returns-then-second c = search (rules, of-both)

pub returns-then-first : goal.returns-then-first
returns-then-first c = search (rules, of-first)

pub returns-then-second-2 : goal.returns-then-second-2
returns-then-second-2 c = search (rules, of-second)

pub returns : goal.returns
returns c = search (rules, of_none)
