-- `lc3_link::put_blamed` meets its contract. Assumes nothing.
use mathlib.Core.Path.{◌∙◌}
use Rattle.view_text.proofs.Putting.{put_same}
use Rattle.lc3_link.proofs.Telling.{row-blamed, none-blamed}
use Rattle.lc3_link.proofs.put_blamed.Goals as goal

pub returns-then-answer-eq-OVERLAPPING_LABELS : goal.returns-then-answer-eq-OVERLAPPING_LABELS
returns-then-answer-eq-OVERLAPPING_LABELS c = put_same (c.label_name.ensures ∙ row-blamed c.args.answer _ _ c.if-answer-eq-OVERLAPPING_LABELS.true) c.put.ensures

pub returns : goal.returns
returns c = none-blamed _ _ _ _ c.if-answer-eq-OVERLAPPING_LABELS.false
