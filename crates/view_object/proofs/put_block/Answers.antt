-- `view_object::put_block` meets its contract. Assumes nothing.
use Rattle.view_object.proofs.Lines.{block-put}
use Rattle.view_object.proofs.put_block.Goals as goal

pub returns : goal.returns
returns c = block-put _ _ _ _ c.last_address.ensures c.from.ensures c.put-a.ensures c.put_hex-b.ensures c.put-c.ensures c.put_hex-d.ensures c.put-e.ensures c.put_counted.ensures
