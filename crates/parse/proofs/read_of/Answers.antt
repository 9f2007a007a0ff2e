-- `parse::read_of` meets its contract. Assumes nothing.
use mathlib.Core.Path.{refl}
use Rattle.parse.proofs.read_of.Goals as goal

pub returns : goal.returns
returns c = refl
