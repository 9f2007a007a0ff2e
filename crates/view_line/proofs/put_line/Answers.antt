-- `view_line::put_line` meets its contract. Assumes nothing.
use Rattle.view_line.proofs.LineTexts.{line-put}
use Rattle.view_line.proofs.put_line.Goals as goal

pub returns : goal.returns
returns c = line-put _ _ _ _ _ c.put-a.ensures c.put_between-b.ensures c.put_shown-c.ensures c.put_between-d.ensures c.put_byte.ensures
