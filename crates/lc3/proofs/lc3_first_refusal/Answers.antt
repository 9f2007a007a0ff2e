-- `lc3::lc3_first_refusal` meets its contract. Assumes nothing.
use Rattle.lc3.proofs.Told.{statements-put}
use Rattle.lc3.proofs.lc3_first_refusal.Goals as goal

pub returns : goal.returns
returns c = statements-put c.put_answer.ensures _ c.check_source.ensures c.told_statements.ensures
