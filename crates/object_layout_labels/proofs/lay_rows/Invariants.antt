-- `object_layout_labels::lay_rows` meets its contract. Assumes nothing.
use Rattle.object_layout_labels.proofs.Loop.{Laying}
use Rattle.object_layout_labels.proofs.lay_rows.Given as goal

abbrev pub invariant-loop-k : goal.invariant-loop-k
invariant-loop-k l = Laying l.n l.bytes l.rows l.initial.labels l.initial.names l.labels l.names l.k l.at
