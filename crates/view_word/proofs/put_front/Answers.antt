-- `view_word::put_front` meets its contract. Assumes nothing.
use Rattle.view_word.proofs.Lines.{front-put}
use Rattle.view_word.proofs.put_front.Goals as goal

pub returns : goal.returns
returns c = front-put _ _ _ c.put_hex-a.ensures c.put_spaces-b.ensures c.put-c.ensures c.put_spaces-d.ensures c.put-e.ensures c.put_spaces.ensures
