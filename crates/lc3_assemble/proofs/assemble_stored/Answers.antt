-- `lc3_assemble::assemble_stored` meets its contract. Assumes nothing.
use Rattle.lc3_assemble.proofs.Answering.{stored-told}
use Rattle.lc3_assemble.proofs.assemble_stored.Goals as goal

pub returns : goal.returns
returns c = stored-told _ _ _ _ _ c.assemble-answer.ensures _ _ _ c.store_made-written.ensures _ c.answer_of.ensures
