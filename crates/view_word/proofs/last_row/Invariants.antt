-- `view_word::last_row` meets its contract. Assumes nothing.
use Rattle.view_word.proofs.Rows.{Last}
use Rattle.view_word.proofs.last_row.Given as goal

abbrev pub invariant-loop-row : goal.invariant-loop-row
invariant-loop-row l = Last l.labels l.n l.address l.row l.last
