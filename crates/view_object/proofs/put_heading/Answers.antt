-- `view_object::put_heading` meets its contract. Assumes nothing.
use Rattle.view_object.proofs.Lines.{heading-put}
use Rattle.view_object.proofs.put_heading.Goals as goal

pub returns : goal.returns
returns c = heading-put _ c.put-a.ensures c.put_counted-b.ensures c.put_counted-d.ensures c.put_counted-e.ensures c.put_counted.ensures
