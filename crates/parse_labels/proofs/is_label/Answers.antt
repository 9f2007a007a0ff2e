-- `parse_labels::is_label` meets its contract. Assumes nothing.
use Rattle.parse_labels.specs.Walk.{is_label}
use Rattle.parse_labels.proofs.is_label.Goals as goal

pub returns : goal.returns
unfolding is_label
returns c = cc
