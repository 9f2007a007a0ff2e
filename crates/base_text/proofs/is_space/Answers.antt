-- `base_text::is_space` meets its contract. Assumes nothing.
use mathlib.Core.Path.{refl}
use Rattle.rules.specs.Tokens.{space}
use Rattle.base_text.proofs.is_space.Goals as goal

pub returns : goal.returns
unfolding space
returns c = refl
