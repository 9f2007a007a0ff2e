-- `lc3::lc3_load` meets its contract. Assumes nothing.
use Rattle.lc3.proofs.Told.{assembled-put}
use Rattle.lc3.proofs.lc3_load.Goals as goal

pub returns : goal.returns
returns c = record { out_after = assembled-put c.put_answer.ensures c.load-a.ensures c.told_answer.ensures; names_after = c.load-a.ensures.buffers }
