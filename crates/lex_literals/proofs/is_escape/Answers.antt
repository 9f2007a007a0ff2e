-- `lex_literals::is_escape` meets its contract. Assumes nothing.
use mathlib.Core.Path.{refl}
use Rattle.lex_literals.specs.Strings.{is_escape}
use Rattle.lex_literals.proofs.is_escape.Goals as goal

pub returns : goal.returns
unfolding is_escape
returns c = refl
