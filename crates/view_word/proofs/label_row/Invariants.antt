-- `view_word::label_row` meets its contract. Assumes nothing.
use Rattle.view_word.specs.Labels.{stands_at}
use Rattle.view_word.proofs.Seeking.{Seeking}
use Rattle.view_word.proofs.label_row.Given as goal

abbrev pub invariant-loop-row : goal.invariant-loop-row
invariant-loop-row l = Seeking (stands_at l.labels l.address) l.n l.row
