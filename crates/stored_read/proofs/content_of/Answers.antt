-- `stored_read::content_of` meets its contract: in each arm the field is known. Assumes nothing.
use mathlib.Core.Path.{sym, ap, ◌∙◌}
use Rattle.stored_read.specs.Told.{content_of}
use Rattle.stored_read.proofs.Found.{content-over, content-short, content-found}
use Rattle.stored_read.proofs.content_of.Goals as goal

pub returns-in-Over : goal.returns-in-Over
returns-in-Over c = c.part_of.ensures ∙ (content-over _ ∙ ap (content_of _) (sym c.in-Over.is))

pub returns-in-CutShort : goal.returns-in-CutShort
returns-in-CutShort c = c.part_of-in-CutShort.ensures ∙ (content-short _ ∙ ap (content_of _) (sym c.in-CutShort.is))

pub returns-in-Found : goal.returns-in-Found
returns-in-Found c = c.part_of-in-Found.ensures ∙ (content-found _ _ _ _ ∙ ap (content_of _) (sym c.in-Found.is))
