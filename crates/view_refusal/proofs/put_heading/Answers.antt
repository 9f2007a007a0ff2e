-- `view_refusal::put_heading` meets its contract. Assumes nothing.
use Rattle.view_refusal.proofs.RefusalTexts.{heading-put}
use Rattle.view_refusal.proofs.put_heading.Goals as goal

pub returns : goal.returns
returns c = heading-put _ _ _ _ c.put_position-a.ensures c.put_title-b.ensures c.put_end-c.ensures c.put_byte.ensures
