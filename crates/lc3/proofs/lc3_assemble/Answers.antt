-- `lc3::lc3_assemble` meets its contract. Assumes nothing.
use Rattle.lc3.proofs.Told.{assembled-put}
use Rattle.lc3.proofs.lc3_assemble.Goals as goal

pub returns : goal.returns
returns c = record { out_after = assembled-put c.put_answer.ensures c.assemble-a.ensures c.told_answer.ensures; names_after = c.assemble-a.ensures.buffers }
