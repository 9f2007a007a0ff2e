-- `stored_walk::block_fits` meets its contract: its tests are the definition's. Assumes nothing.
use mathlib.Core.Path.{refl}
use Rattle.stored_walk.specs.Behind.{block_fits}
use Rattle.stored_walk.proofs.block_fits.Goals as goal

pub returns : goal.returns
unfolding block_fits
returns c = refl
