-- `view_note::put_takes` meets its contract. Assumes nothing.
use Rattle.view_note.proofs.NoteTexts.{takes-put}
use Rattle.view_note.proofs.put_takes.Goals as goal

pub returns : goal.returns
returns c = takes-put _ _ _ c.put-a.ensures c.put_field-b.ensures c.put-c.ensures c.put_number-d.ensures c.put.ensures
