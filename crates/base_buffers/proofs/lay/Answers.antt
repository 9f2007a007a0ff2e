-- `base_buffers::lay` lays a slice at the front of another, and blanks behind it. Assumes nothing.
use Rattle.base_buffers.proofs.Filled.{front}
use Rattle.base_buffers.proofs.lay.Goals as goal

pub returns : goal.returns
returns g c = front _ _ _ _ _ c.clear.ensures c.put.ensures
