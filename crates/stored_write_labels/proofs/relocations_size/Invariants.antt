-- `stored_write_labels::relocations_size` meets its contract. Assumes nothing.
use Rattle.rules.specs.Buffers.{reloc_row}
use Rattle.stored_write_labels.specs.Tables.{reloc_field}
use Rattle.stored_write_labels.proofs.Sizes.{Added}
use Rattle.stored_write_labels.proofs.relocations_size.Given as goal

abbrev pub invariant-loop-k : goal.invariant-loop-k
invariant-loop-k l = Added reloc_field (reloc_row l.relocations l.labels l.names) l.n l.k l.size
