-- `stored_walk::step` meets its contract: no field, or one by its tag. Assumes nothing.
use mathlib.Core.Path.{refl}
use Rattle.stored_read.proofs.Found.{says-found}
use Rattle.stored_walk.proofs.Dispatch.{step-over, step-short}
use Rattle.stored_walk.proofs.step.Goals as goal

pub step_field-requires : goal.step_field-requires
step_field-requires c = record { going = c.requires; stands = says-found _ _ _ c.field_at.ensures _ _ _ c.in-Found.is }

pub returns-in-Over : goal.returns-in-Over
returns-in-Over c = (refl, step-over _ _ _ _ c.field_at.ensures c.in-Over.is)

pub returns-in-CutShort : goal.returns-in-CutShort
returns-in-CutShort c = (refl, step-short _ _ _ _ c.field_at.ensures c.in-CutShort.is)
