-- `view_far::put_line` meets its contract. Assumes nothing.
use Rattle.view_far.proofs.FarTexts.{line-put}
use Rattle.view_far.proofs.put_line.Goals as goal

pub returns : goal.returns
returns c = line-put _ c.args.st _ c.label_text.ensures c.put-a.ensures c.put-b.ensures c.put-c.ensures c.put_distance-d.ensures c.put-e.ensures c.put_reach-f.ensures c.put_byte.ensures
