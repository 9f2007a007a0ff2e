-- `view_word::put_reached` meets its contract. Assumes nothing.
use Rattle.view_word.proofs.Lines.{reached-put}
use Rattle.view_word.proofs.put_reached.Goals as goal

pub returns : goal.returns
returns c = reached-put _ _ _ _ _ c.put_spaces-a.ensures c.put-b.ensures c.put_hex-c.ensures c.label_row.ensures c.put_behind.ensures
