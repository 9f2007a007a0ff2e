-- `lc3::lc3_refusal` meets its contract. Assumes nothing.
use Rattle.lc3.proofs.Told.{refusal-put}
use Rattle.lc3.proofs.lc3_refusal.Goals as goal

pub returns : goal.returns
returns c = refusal-put c.put_answer.ensures _ _ c.clear.ensures c.put_title-n.ensures c.told_written.ensures
