-- `view_note::put_label` meets its contract. Assumes nothing.
use Rattle.view_note.proofs.NoteTexts.{label-none, label-some}
use Rattle.view_note.proofs.put_label.Goals as goal

pub returns-then-label-eq0 : goal.returns-then-label-eq0
returns-then-label-eq0 c = label-none _ _ _ c.label_before-label.ensures _ _ c.if-label-eq0.true

pub returns : goal.returns
returns c = label-some _ _ _ c.label_before-label.ensures _ c.if-label-eq0.false c.label_text.ensures c.put-a.ensures c.put-b.ensures c.put.ensures
