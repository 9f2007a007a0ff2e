-- `lc3::lc3_check` meets its contract. Assumes nothing.
use Rattle.lc3.proofs.Told.{answer-put}
use Rattle.lc3.proofs.lc3_check.Goals as goal

pub returns : goal.returns
returns c = answer-put c.put_answer.ensures c.check.ensures c.told_answer.ensures
