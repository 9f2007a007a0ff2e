-- `list_lines::put_cells` meets its contract. Assumes nothing.
use lib.ListN.{length}
use Rattle.list_lines.proofs.Lines.{Listed}
use Rattle.list_lines.proofs.put_cells.Given as goal

abbrev pub invariant-loop-word : goal.invariant-loop-word
invariant-loop-word l = Listed l.initial.out l.out l.at l.end l.start l.words l.marks (length l.yielded) l.address
