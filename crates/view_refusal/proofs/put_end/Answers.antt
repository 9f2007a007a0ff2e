-- `view_refusal::put_end` meets its contract. Assumes nothing.
use Rattle.view_refusal.proofs.RefusalTexts.{end_line, end_none, end-source}
use Rattle.view_refusal.proofs.put_end.Goals as goal

pub returns-then-place-src : goal.returns-then-place-src
returns-then-place-src c = end-source _ _ c.if-place-src.true c.put.ensures

pub returns-then-line_stop-place : goal.returns-then-line_stop-place
returns-then-line_stop-place c = end_line _ _ c.if-place-src.false c.line_start-first.ensures.0 c.line_stop.ensures.0 c.if-line_stop-place.true c.put-then-line_stop-place.ensures

pub returns : goal.returns
returns c = end_none _ _ _ _ c.if-place-src.false c.line_start-first.ensures.0 c.line_stop.ensures.0 c.if-line_stop-place.false
