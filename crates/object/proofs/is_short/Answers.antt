-- `object::is_short` meets its contract. Assumes nothing.
use mathlib.Core.Path.{refl}
use Rattle.rules.specs.Buffers.{short}
use Rattle.object.proofs.is_short.Goals as goal

pub returns : goal.returns
unfolding short
returns c = refl
