-- `view_far::is_orig` meets its contract. Assumes nothing.
use mathlib.Core.Path.{◌≡◌, refl}
use mathlib.Core.Bool.{false}
use Rattle.parse_rows.specs.declared.Op.{Op}
use Rattle.parse_rows.specs.declared.Op.TheVariants as op
use Rattle.parse_meaning.specs.Reading.{meant_op}
use Rattle.view_far.specs.Far.{is_orig}
use Rattle.view_far.proofs.is_orig.Goals as goal

other : (o : Op) → (o ≡ op.Orig → ⊥) → false ≡ is_orig (meant_op o)
unfolding is_orig
other op.Orig h = absurd (h refl)
other op.Instr h = refl
other op.Fill h = refl
other op.Blkw h = refl
other op.Stringz h = refl
other op.End h = refl
other op.External h = refl

pub returns-in-Orig : goal.returns-in-Orig
unfolding is_orig
returns-in-Orig c = rw c.in-Orig.is

pub returns-in_default : goal.returns-in_default
returns-in_default c = other _ c.in_default.not-Orig
