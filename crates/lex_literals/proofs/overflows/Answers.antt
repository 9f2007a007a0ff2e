-- `lex_literals::overflows` meets its contract. Assumes nothing.
use mathlib.Core.Path.{refl}
use Rattle.lex_literals.proofs.overflows.Goals as goal

pub returns : goal.returns
returns c = refl
