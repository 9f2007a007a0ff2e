-- `stored_walk::unset_fits` meets its contract: its tests are the definition's. Assumes nothing.
use mathlib.Core.Path.{refl}
use Rattle.stored_walk.specs.Behind.{unset_fits}
use Rattle.stored_walk.proofs.unset_fits.Goals as goal

pub returns : goal.returns
unfolding unset_fits
returns c = refl
