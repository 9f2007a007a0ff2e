-- `pass2_blocks::row_in` puts a row in at its place. Assumes nothing.
use Rattle.pass2_blocks.proofs.Passing.{row-in}
use Rattle.pass2_blocks.proofs.row_in.Goals as goal

pub returns : goal.returns
returns g c = row-in _ _ _ _ _ _ _ c.row.ensures c.turn.ensures
