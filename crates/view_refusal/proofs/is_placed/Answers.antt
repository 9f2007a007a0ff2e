-- `view_refusal::is_placed` meets its contract. Assumes nothing.
use Rattle.view_refusal.specs.Refusals.{placed}
use mathlib.Core.Path.{refl}
use Rattle.view_refusal.proofs.is_placed.Goals as goal

pub returns : goal.returns
unfolding placed
returns c = refl
