-- `lc3_link::answer_of` meets its contract. Assumes nothing.
use Rattle.lc3_link.proofs.Telling.{answer-bytes, answer-refused}
use Rattle.lc3_link.proofs.answer_of.Goals as goal

pub returns-in-Ok : goal.returns-in-Ok
returns-in-Ok c = answer-bytes _ _ _ c.in-Ok.is

pub returns-in-Err : goal.returns-in-Err
returns-in-Err c = answer-refused _ _ _ c.in-Err.is
