-- `stored_write_labels::label_size` meets its contract. Assumes nothing.
use borrow.Author.Rules.{rules}
use Rattle.stored_write_labels.proofs.Sizes.{size-defined, size-outer}
use Rattle.stored_write_labels.proofs.label_size.Goals as goal

pub returns-then-flag-eq-DEFINED : goal.returns-then-flag-eq-DEFINED
returns-then-flag-eq-DEFINED c = search (rules, size-defined)

pub returns : goal.returns
returns c = search (rules, size-outer)
