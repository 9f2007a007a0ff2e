-- `base_text::is_letter` meets its contract. Assumes nothing.
use mathlib.Core.Path.{refl}
use Rattle.rules.specs.Tokens.{letter}
use Rattle.base_text.proofs.is_letter.Goals as goal

pub returns : goal.returns
unfolding letter
returns c = refl
