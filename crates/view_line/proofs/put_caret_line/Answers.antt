-- `view_line::put_caret_line` meets its contract. Assumes nothing.
use Rattle.view_line.proofs.LineTexts.{caret-line-put}
use Rattle.view_line.proofs.put_caret_line.Goals as goal

pub returns : goal.returns
returns c = caret-line-put _ _ _ _ _ c.put-margin.ensures c.put_between-b.ensures c.put_under-c.ensures c.put_carets-d.ensures c.put_byte.ensures
