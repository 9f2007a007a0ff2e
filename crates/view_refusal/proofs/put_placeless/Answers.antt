-- `view_refusal::put_placeless` meets its contract. Assumes nothing.
use Rattle.view_refusal.proofs.RefusalTexts.{placeless-put}
use Rattle.view_refusal.proofs.put_placeless.Goals as goal

pub returns : goal.returns
returns c = placeless-put _ _ c.put-a.ensures c.put-b.ensures c.put_title-c.ensures c.put_byte.ensures
