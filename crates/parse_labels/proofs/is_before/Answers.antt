-- `parse_labels::is_before` meets its contract. Assumes nothing.
use Rattle.parse_labels.specs.Walk.{is_before}
use Rattle.parse_labels.proofs.is_before.Goals as goal

pub returns : goal.returns
unfolding is_before
returns c = cc
