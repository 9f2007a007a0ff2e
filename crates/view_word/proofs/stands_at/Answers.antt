-- `view_word::stands_at` meets its contract. Assumes nothing.
use Rattle.view_word.proofs.Rows.{stands-row}
use Rattle.view_word.proofs.stands_at.Goals as goal

pub returns : goal.returns
returns c = stands-row _ _ _ c.is_defined.ensures c.label_cell.ensures c.from.ensures
