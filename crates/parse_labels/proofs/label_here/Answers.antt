-- `parse_labels::label_here` meets its contract. Assumes nothing.
use borrow.Author.Rules.{rules}
use Rattle.parse_labels.proofs.Walking.{label_is, label-none}
use Rattle.parse_labels.proofs.label_here.Goals as goal

pub returns-then-is_label : goal.returns-then-is_label
returns-then-is_label c = search (rules, label_is)

pub returns : goal.returns
returns c = search (rules, label-none)
