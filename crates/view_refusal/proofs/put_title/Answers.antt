-- `view_refusal::put_title` meets its contract. Assumes nothing.
use Rattle.view_refusal.proofs.RefusalTexts.{title-put}
use Rattle.view_refusal.proofs.put_title.Goals as goal

pub returns : goal.returns
returns c = title-put _ c.from.ensures c.put-a.ensures c.put_decimal-b.ensures c.put_byte-c.ensures c.put_name-d.ensures c.put-e.ensures c.put_meaning.ensures
