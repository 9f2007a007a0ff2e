-- `view_refusal::put_second` meets its contract. Assumes nothing.
use Rattle.view_refusal.proofs.RefusalTexts.{placed-in, placed-taken, second_none, second-put}
use Rattle.view_refusal.proofs.put_second.Goals as goal

pub put_position-a-requires : goal.put_position-a-requires
put_position-a-requires c = (placed-in _ _ _ c.is_placed.ensures c.if-is_placed.true, placed-taken _ _ _ c.is_placed.ensures c.if-is_placed.true)

pub put_underlined-requires : goal.put_underlined-requires
put_underlined-requires c = placed-in _ _ _ c.is_placed.ensures c.if-is_placed.true

pub returns-then-is_placed : goal.returns-then-is_placed
returns-then-is_placed c = second-put _ _ _ c.is_placed.ensures _ c.if-is_placed.true c.put_position-a.ensures c.put-b.ensures c.put_underlined.ensures

pub returns : goal.returns
returns c = second_none _ _ _ c.is_placed.ensures _ _ _ c.if-is_placed.false
