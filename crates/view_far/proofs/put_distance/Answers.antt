-- `view_far::put_distance` meets its contract. Assumes nothing.
use Rattle.view_far.proofs.FarTexts.{distance-after, distance-before}
use Rattle.view_far.proofs.put_distance.Goals as goal

pub returns-then-offset-lt-SIGN : goal.returns-then-offset-lt-SIGN
returns-then-offset-lt-SIGN c = distance-after _ c.if-offset-lt-SIGN.true c.from.ensures c.put_count-a.ensures c.put.ensures

pub returns : goal.returns
returns c = distance-before _ c.if-offset-lt-SIGN.false c.from-2.ensures c.put_count-b.ensures c.put-2.ensures
