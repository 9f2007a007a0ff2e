-- `stored_walk::set_fits` meets its contract: its tests are the definition's. Assumes nothing.
use mathlib.Core.Path.{refl}
use Rattle.stored_walk.specs.Behind.{set_fits}
use Rattle.stored_walk.proofs.set_fits.Goals as goal

pub returns : goal.returns
unfolding set_fits
returns c = refl
