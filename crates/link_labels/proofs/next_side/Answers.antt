-- `link_labels::next_side` meets its contract. Assumes nothing.
use Rattle.link_labels.proofs.Siding.{side-over, side-second, side-first, side-less, side-greater, side_same}
use borrow.Author.Rules.{rules}
use Rattle.link_labels.proofs.next_side.Goals as goal

pub returns-then-n-j : goal.returns-then-n-j
returns-then-n-j c = search (rules, side-over)

pub returns-then-m-i : goal.returns-then-m-i
returns-then-m-i c = search (rules, side-second)

pub returns-then-n-j-2 : goal.returns-then-n-j-2
returns-then-n-j-2 c = search (rules, side-first)

pub returns-in-Less : goal.returns-in-Less
returns-in-Less c = search (rules, side-less)

pub returns-in-Greater : goal.returns-in-Greater
returns-in-Greater c = search (rules, side-greater)

pub returns-in-Equal : goal.returns-in-Equal
returns-in-Equal c = search (rules, side_same)
