-- `view_refusal::put_placed` meets its contract. Assumes nothing.
use Rattle.view_refusal.proofs.RefusalTexts.{placed-put}
use Rattle.view_refusal.proofs.put_placed.Goals as goal

pub returns : goal.returns
returns c = placed-put _ _ _ _ _ _ _ c.put_heading-a.ensures c.put_underlined-b.ensures c.put_note-c.ensures c.put_second.ensures
