-- `base_text::is_digit` meets its contract. Assumes nothing.
use mathlib.Core.Path.{refl}
use Rattle.rules.specs.Tokens.{digit}
use Rattle.base_text.proofs.is_digit.Goals as goal

pub returns : goal.returns
unfolding digit
returns c = refl
