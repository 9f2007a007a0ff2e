-- `list_sections::put_relocations` meets its contract. Assumes nothing.
use Rattle.rules.specs.Buffers.{reloc_row}
use Rattle.rules.specs.Listing.{reloc_line}
use Rattle.list_sections.proofs.Texts.{Rows}
use Rattle.list_sections.proofs.put_relocations.Given as goal

abbrev pub invariant-loop-k : goal.invariant-loop-k
invariant-loop-k l = Rows reloc_line (reloc_row l.relocations l.labels l.names) l.n l.initial.out l.out l.at l.end l.k
