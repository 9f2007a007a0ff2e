-- `list_sections::relocations_size` meets its contract. Assumes nothing.
use Rattle.rules.specs.Buffers.{reloc_row}
use Rattle.rules.specs.Listing.{reloc_line}
use Rattle.list_sections.proofs.Sizes.{Added}
use Rattle.list_sections.proofs.relocations_size.Given as goal

abbrev pub invariant-loop-k : goal.invariant-loop-k
invariant-loop-k l = Added reloc_line (reloc_row l.relocations l.labels l.names) l.n l.k l.size
