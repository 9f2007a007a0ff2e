-- `stored_walk::label_fits` meets its contract: its tests are the definition's. Assumes nothing.
use mathlib.Core.Path.{refl}
use Rattle.stored_walk.specs.Behind.{label_fits}
use Rattle.stored_walk.proofs.label_fits.Goals as goal

pub returns : goal.returns
unfolding label_fits
returns c = refl
