-- `base_text::is_plain` meets its contract. Assumes nothing.
use mathlib.Core.Path.{refl}
use Rattle.base_text.specs.Runs.{plain}
use Rattle.base_text.proofs.is_plain.Goals as goal

pub returns : goal.returns
unfolding plain
returns c = refl
