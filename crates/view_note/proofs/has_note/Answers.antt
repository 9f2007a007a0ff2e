-- `view_note::has_note` meets its contract. Assumes nothing.
use Rattle.view_note.specs.Notes.{has_note}
use mathlib.Core.Path.{refl}
use Rattle.view_note.proofs.has_note.Goals as goal

pub returns : goal.returns
unfolding has_note
returns c = refl
