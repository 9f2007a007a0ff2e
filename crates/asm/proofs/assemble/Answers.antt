-- `asm::assemble` meets its contract. Assumes nothing.
use Rattle.object_answer.proofs.Leaving.{leaves-refused}
use Rattle.asm.proofs.Stages.{symbols-long, relocations-long, call-begun, call_fits, call_long, call-went, call-stopped}
use Rattle.asm.proofs.assemble.Goals as goal

pub first_half-requires : goal.first_half-requires
first_half-requires c = (symbols-long, relocations-long)

pub second_half-requires : goal.second_half-requires
second_half-requires c = (call-begun _ _ _ _ _ _ c.is_short-small.ensures c.lent_words-room.ensures _ c.first_half.ensures _ c.in-Ok.is, call_fits _ _ _ _ _ _ c.is_short-small.ensures c.lent_words-room.ensures _ c.first_half.ensures _ c.in-Ok.is, call_long _ _ _ _ _ _ c.is_short-small.ensures c.lent_words-room.ensures _ c.first_half.ensures _ c.in-Ok.is)

pub returns-in-Ok : goal.returns-in-Ok
returns-in-Ok c = call-went _ _ _ _ _ _ c.is_short-small.ensures c.lent_words-room.ensures _ c.first_half.ensures _ c.in-Ok.is _ _ c.second_half.ensures

pub returns-in-Err : goal.returns-in-Err
returns-in-Err c = call-stopped _ _ _ _ _ _ c.is_short-small.ensures c.lent_words-room.ensures _ c.first_half.ensures _ c.in-Err.is _ _ (leaves-refused _ _ _ _ _ _ _ c.clear.ensures _ c.refusal.ensures)
