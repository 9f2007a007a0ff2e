-- `link_labels::join_rows` meets its contract. Assumes nothing.
use Rattle.link_labels.proofs.Joining.{join-first-open, join-second-open, join_one, join_apart}
use borrow.Author.Rules.{rules}
use Rattle.link_labels.proofs.join_rows.Goals as goal

pub returns-then-x-eq-OPEN : goal.returns-then-x-eq-OPEN
returns-then-x-eq-OPEN c = search (rules, join-first-open)

pub returns-then-y-eq-OPEN : goal.returns-then-y-eq-OPEN
returns-then-y-eq-OPEN c = search (rules, join-second-open)

pub returns-then-x-y : goal.returns-then-x-y
returns-then-x-y c = search (rules, join_one)

pub returns : goal.returns
returns c = search (rules, join_apart)
