-- `lc3_assemble::answer_of` meets its contract. Assumes nothing.
use Rattle.lc3_assemble.proofs.Answering.{answer-bytes, answer-refused}
use Rattle.lc3_assemble.proofs.answer_of.Goals as goal

pub returns-in-Ok : goal.returns-in-Ok
returns-in-Ok c = answer-bytes c.args.answer _ _ c.in-Ok.is

pub returns-in-Err : goal.returns-in-Err
returns-in-Err c = answer-refused c.args.answer _ _ _ c.in-Err.is c.refusal.ensures
