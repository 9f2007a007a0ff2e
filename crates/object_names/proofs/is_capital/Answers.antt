-- `object_names::is_capital` meets its contract. Assumes nothing.
use mathlib.Core.Path.{refl}
use Rattle.rules.specs.Tokens.{digit}
use Rattle.object_names.specs.Plain.{capital}
use Rattle.object_names.proofs.is_capital.Goals as goal

pub returns : goal.returns
unfolding capital digit
returns c = refl
