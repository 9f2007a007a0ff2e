-- `test_support::difference` meets its contract. Assumes nothing.
use Rattle.test_support.specs.Telling.{differs_text}
use Rattle.test_support.proofs.difference.Goals as goal

pub returns : goal.returns
unfolding differs_text
returns c = rw (← c.digit_of.ensures, ← c.digit_of-2.ensures, ← c.digit_of-3.ensures, ← c.digit_of-4.ensures, ← c.digit_of-5.ensures, ← c.digit_of-6.ensures)
