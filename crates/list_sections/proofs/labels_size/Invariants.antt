-- `list_sections::labels_size` meets its contract. Assumes nothing.
use Rattle.rules.specs.Buffers.{label_row}
use Rattle.rules.specs.Listing.{label_line}
use Rattle.list_sections.proofs.Sizes.{Added}
use Rattle.list_sections.proofs.labels_size.Given as goal

abbrev pub invariant-loop-k : goal.invariant-loop-k
invariant-loop-k l = Added label_line (label_row l.labels l.names) l.n l.k l.size
