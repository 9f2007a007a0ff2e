-- `stored_write_labels::labels_size` meets its contract. Assumes nothing.
use Rattle.rules.specs.Buffers.{label_row}
use Rattle.stored_write_labels.specs.Tables.{label_field}
use Rattle.stored_write_labels.proofs.Sizes.{Added}
use Rattle.stored_write_labels.proofs.labels_size.Given as goal

abbrev pub invariant-loop-k : goal.invariant-loop-k
invariant-loop-k l = Added label_field (label_row l.labels l.names) l.n l.k l.size
