-- `link_labels::open_address` meets its contract. Assumes nothing.
use Rattle.link_labels.proofs.Joining.{open-defined, open-outer}
use borrow.Author.Rules.{rules}
use Rattle.link_labels.proofs.open_address.Goals as goal

pub returns-then-labels-i-eq-DEFINED : goal.returns-then-labels-i-eq-DEFINED
returns-then-labels-i-eq-DEFINED c = search (rules, open-defined)

pub returns : goal.returns
returns c = search (rules, open-outer)
