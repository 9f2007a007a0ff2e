-- `view_object::put_bare` meets its contract. Assumes nothing.
use Rattle.view_object.proofs.Lines.{bare-put}
use Rattle.view_object.proofs.put_bare.Goals as goal

pub returns : goal.returns
returns c = bare-put _ _ c.put-a.ensures c.put_hex-b.ensures c.put_byte-c.ensures c.put-d.ensures c.put.ensures
