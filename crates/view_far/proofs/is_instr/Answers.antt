-- `view_far::is_instr` meets its contract. Assumes nothing.
use mathlib.Core.Path.{◌≡◌, refl}
use mathlib.Core.Bool.{false}
use Rattle.parse_rows.specs.declared.Op.{Op}
use Rattle.parse_rows.specs.declared.Op.TheVariants as op
use Rattle.parse_meaning.specs.Reading.{meant_op}
use Rattle.view_far.specs.Far.{is_instr}
use Rattle.view_far.proofs.is_instr.Goals as goal

other : (o : Op) → (o ≡ op.Instr → ⊥) → false ≡ is_instr (meant_op o)
unfolding is_instr
other op.Orig h = refl
other op.Instr h = absurd (h refl)
other op.Fill h = refl
other op.Blkw h = refl
other op.Stringz h = refl
other op.End h = refl
other op.External h = refl

pub returns-in-Instr : goal.returns-in-Instr
unfolding is_instr
returns-in-Instr c = rw c.in-Instr.is

pub returns-in_default : goal.returns-in_default
returns-in_default c = other _ c.in_default.not-Instr
