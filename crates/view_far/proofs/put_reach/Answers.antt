-- `view_far::put_reach` meets its contract. Assumes nothing.
use Rattle.view_far.proofs.FarTexts.{reach_near, reach_far}
use Rattle.view_far.proofs.put_reach.Goals as goal

pub returns-then-reach-eq-OFFSET9 : goal.returns-then-reach-eq-OFFSET9
returns-then-reach-eq-OFFSET9 c = reach_near _ c.if-reach-eq-OFFSET9.true c.put.ensures

pub returns : goal.returns
returns c = reach_far _ c.if-reach-eq-OFFSET9.false c.put-2.ensures
