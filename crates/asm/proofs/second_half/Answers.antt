-- `asm::second_half` meets its contract. Assumes nothing.
use Rattle.asm.proofs.Leaving.{went-leaves, stopped-leaves}
use Rattle.asm.proofs.second_half.Goals as goal

pub returns-in-Ok : goal.returns-in-Ok
returns-in-Ok c = went-leaves _ _ _ _ _ _ _ c.write_object-answer.ensures _ c.in-Ok.is _ c.accepted.ensures

pub returns-in-Err : goal.returns-in-Err
returns-in-Err c = stopped-leaves _ _ _ _ _ _ _ c.write_object-answer.ensures _ c.in-Err.is _ c.refusal.ensures
