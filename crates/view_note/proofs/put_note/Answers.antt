-- `view_note::put_note` meets its contract. Assumes nothing.
use Rattle.view_note.proofs.NoteTexts.{note-far, note-none, note-put}
use Rattle.view_note.proofs.put_note.Goals as goal

pub returns-then-number-eq-OFFSET_NEW_ERR : goal.returns-then-number-eq-OFFSET_NEW_ERR
returns-then-number-eq-OFFSET_NEW_ERR c = note-far _ _ _ c.if-number-eq-OFFSET_NEW_ERR.true c.put_far.ensures

pub returns-then-has_note : goal.returns-then-has_note
returns-then-has_note c = note-put _ _ _ c.if-number-eq-OFFSET_NEW_ERR.false c.has_note.ensures c.if-has_note.true c.put-a.ensures c.put_said-b.ensures c.put_byte.ensures

pub returns : goal.returns
returns c = note-none _ _ _ c.if-number-eq-OFFSET_NEW_ERR.false c.has_note.ensures _ _ c.if-has_note.false
