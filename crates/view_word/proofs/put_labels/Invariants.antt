-- `view_word::put_labels` meets its contract. Assumes nothing.
use Rattle.view_word.proofs.Rows.{Owned}
use Rattle.view_word.proofs.put_labels.Given as goal

abbrev pub invariant-loop-row : goal.invariant-loop-row
invariant-loop-row l = Owned l.labels l.names l.address l.shown l.n l.initial.out l.out l.at l.end l.row
