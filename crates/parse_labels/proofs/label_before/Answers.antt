-- `parse_labels::label_before` meets its contract. Assumes nothing.
use borrow.Author.Rules.{rules}
use Rattle.parse_labels.proofs.Before.{before-none, before-label}
use Rattle.parse_labels.proofs.label_before.Goals as goal

pub returns-then-head-start : goal.returns-then-head-start
returns-then-head-start c = search (rules, before-none)

pub returns : goal.returns
returns c = search (rules, before-label)
