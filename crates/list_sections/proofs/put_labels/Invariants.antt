-- `list_sections::put_labels` meets its contract. Assumes nothing.
use Rattle.rules.specs.Buffers.{label_row}
use Rattle.rules.specs.Listing.{label_line}
use Rattle.list_sections.proofs.Texts.{Rows}
use Rattle.list_sections.proofs.put_labels.Given as goal

abbrev pub invariant-loop-k : goal.invariant-loop-k
invariant-loop-k l = Rows label_line (label_row l.labels l.names) l.n l.initial.out l.out l.at l.end l.k
