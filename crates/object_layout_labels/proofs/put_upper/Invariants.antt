-- `object_layout_labels::put_upper` meets its contract. Assumes nothing.
use Rattle.object_layout_labels.proofs.Rows.{Upped}
use Rattle.object_layout_labels.proofs.put_upper.Given as goal

abbrev pub invariant-loop-i : goal.invariant-loop-i
invariant-loop-i l = Upped l.initial.dst l.at l.src l.dst l.i
