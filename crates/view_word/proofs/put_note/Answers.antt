-- `view_word::put_note` meets its contract. Assumes nothing.
use Rattle.view_word.proofs.Lines.{note-offset, note-char}
use Rattle.view_word.proofs.put_note.Goals as goal

pub returns-in-Some : goal.returns-in-Some
returns-in-Some c = note-offset _ _ _ _ _ _ _ _ c.in-Some.is c.target_of.ensures c.put_reached.ensures

pub returns-in-None : goal.returns-in-None
returns-in-None c = note-char _ _ _ _ _ _ c.in-None.is c.put_char.ensures
