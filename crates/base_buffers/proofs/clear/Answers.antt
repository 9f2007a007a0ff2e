-- `base_buffers::clear` fills its slice with blanks. Assumes nothing.
use Rattle.base_buffers.proofs.Filled.{blank_more}
use Rattle.base_buffers.proofs.clear.Goals as goal

pub loop-cell-preserved : goal.loop-cell-preserved
loop-cell-preserved g c = blank_more _ _ _ _ c.loop-cell.invariant c.loop-cell-test.true
