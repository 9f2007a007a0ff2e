-- `view_refusal::put_refusal` meets its contract. Assumes nothing.
use Rattle.view_refusal.proofs.RefusalTexts.{placed-in, placed-taken, refusal-not-placed, refusal-placed, refusal-whole}
use Rattle.view_refusal.proofs.put_refusal.Goals as goal

pub returns-then-number-eq-SOURCE_TOO_LONG : goal.returns-then-number-eq-SOURCE_TOO_LONG
returns-then-number-eq-SOURCE_TOO_LONG c = refusal-whole _ _ _ _ _ _ _ c.if-number-eq-SOURCE_TOO_LONG.true c.put_placeless.ensures

pub put_placed-requires : goal.put_placed-requires
put_placed-requires c = (placed-in _ _ _ c.is_placed.ensures c.if-is_placed.true, placed-taken _ _ _ c.is_placed.ensures c.if-is_placed.true)

pub returns-then-is_placed : goal.returns-then-is_placed
returns-then-is_placed c = refusal-placed _ _ _ c.is_placed.ensures _ _ _ _ c.if-number-eq-SOURCE_TOO_LONG.false c.if-is_placed.true c.put_placed.ensures

pub returns : goal.returns
returns c = refusal-not-placed _ _ _ c.is_placed.ensures _ _ _ _ c.if-number-eq-SOURCE_TOO_LONG.false c.if-is_placed.false c.put_placeless-2.ensures
