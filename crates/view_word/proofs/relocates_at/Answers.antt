-- `view_word::relocates_at` meets its contract. Assumes nothing.
use Rattle.view_word.proofs.Rows.{relocates-row}
use Rattle.view_word.proofs.relocates_at.Goals as goal

pub returns : goal.returns
returns c = relocates-row _ _ _ c.relocation_cell.ensures c.from.ensures
