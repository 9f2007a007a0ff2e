-- `object_check_labels::check_labels` meets its contract. Assumes nothing.
use Rattle.object_check_labels.proofs.Rules.{LabelsTo}
use Rattle.object_check_labels.proofs.check_labels.Given as goal

abbrev pub invariant-loop-k : goal.invariant-loop-k
invariant-loop-k l = LabelsTo l.n l.labels l.names l.k
