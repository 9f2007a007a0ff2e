-- `lc3::lc3_link` meets its contract. Assumes nothing.
use Rattle.lc3.proofs.Told.{linked-put}
use Rattle.lc3.proofs.lc3_link.Goals as goal

pub returns : goal.returns
returns c = linked-put c.put_answer.ensures c.link-linked.ensures c.told_answer.ensures
