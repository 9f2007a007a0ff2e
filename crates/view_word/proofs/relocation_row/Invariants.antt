-- `view_word::relocation_row` meets its contract. Assumes nothing.
use Rattle.view_word.specs.Labels.{relocates}
use Rattle.view_word.proofs.Seeking.{Seeking}
use Rattle.view_word.proofs.relocation_row.Given as goal

abbrev pub invariant-loop-row : goal.invariant-loop-row
invariant-loop-row l = Seeking (relocates l.relocations l.address) l.n l.row
