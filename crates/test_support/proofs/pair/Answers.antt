-- `test_support::pair` meets its contract. Assumes nothing.
use mathlib.Core.Path.{refl}
use Rattle.test_support.specs.Sources.{pair}
use Rattle.test_support.proofs.pair.Goals as goal

pub returns : goal.returns
unfolding pair
returns c = rw (← c.digit_value.ensures, ← c.digit_value-2.ensures, ← c.from-first.ensures, ← c.from-second.ensures) refl
