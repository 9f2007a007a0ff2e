-- `link_decide::judge` meets its contract. Assumes nothing.
use mathlib.Core.Path.{refl}
use Rattle.link_decide.proofs.Steps.{row_fits, still-carried, judged-meets, judged-differs, judged-weighs}
use borrow.Author.Rules.{rules}
use Rattle.link_decide.proofs.judge.Goals as goal

pub returns-then-blocks_meet : goal.returns-then-blocks_meet
returns-then-blocks_meet c = judged-meets _ _ _ _ _ _ _ _ _ _ _ _ _ _ _ c.blocks_meet.ensures c.if-blocks_meet.true c.placeless.ensures

pub overflow_add-result : goal.overflow_add-result
overflow_add-result c = let low = row_fits c.requires.labels c.match_labels-matched.ensures c.in-Err.is in search rules

pub tally-c-requires : goal.tally-c-requires
tally-c-requires c = (still-carried c.requires.relocs1 c.match_labels-matched.auto.notes1, still-carried c.requires.relocs2 c.match_labels-matched.auto.notes2, c.requires.few)

pub returns-in-Err : goal.returns-in-Err
returns-in-Err c = judged-differs _ _ _ _ _ _ _ _ _ _ _ _ _ _ _ c.blocks_meet.ensures c.if-blocks_meet.false _ c.match_labels-matched.ensures _ c.in-Err.is refl

pub returns-in-Ok : goal.returns-in-Ok
returns-in-Ok c =
    judged-weighs _ _ _ _ _ _ _ _ _ _ _ _ _ _ _ c.blocks_meet.ensures c.if-blocks_meet.false _ c.match_labels-matched.ensures _ c.in-Ok.is
    _ c.weigh.ensures c.tally-c.ensures
