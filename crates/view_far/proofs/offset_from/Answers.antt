-- `view_far::offset_from` meets its contract. Assumes nothing.
use mathlib.Core.Path.{refl}
use native.Mathlib.Omega.{arith}
use Rattle.rules.specs.Words.{offset}
use Rattle.view_far.proofs.offset_from.Goals as goal

pub returns : goal.returns
unfolding offset
returns c = (refl, omega arith)
