-- `stored_walk::reloc_fits` meets its contract: its tests are the definition's. Assumes nothing.
use mathlib.Core.Path.{refl}
use Rattle.stored_walk.specs.Behind.{reloc_fits}
use Rattle.stored_walk.proofs.reloc_fits.Goals as goal

pub returns : goal.returns
unfolding reloc_fits
returns c = refl
