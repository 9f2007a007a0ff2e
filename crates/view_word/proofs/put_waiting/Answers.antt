-- `view_word::put_waiting` meets its contract. Assumes nothing.
use Rattle.view_word.proofs.Lines.{waiting-put}
use Rattle.view_word.proofs.put_waiting.Goals as goal

pub returns : goal.returns
returns c = waiting-put _ _ _ _ _ _ c.name_of.ensures c.name_of-2.ensures c.put_front-a.ensures c.put-b.ensures c.put-c.ensures c.put_spaces-d.ensures c.put.ensures
