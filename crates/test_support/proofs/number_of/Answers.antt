-- `test_support::number_of` meets its contract. Assumes nothing.
use mathlib.Core.Path.{◌∙◌}
use Rattle.test_support.proofs.Reading.{counting-start, counting_more, counting-all}
use borrow.Author.Rules.{rules}
use Rattle.test_support.proofs.number_of.Goals as goal

pub loop-b-init : goal.loop-b-init
loop-b-init c = counting-start _

pub loop-b-preserved : goal.loop-b-preserved
loop-b-preserved c = counting_more c.loop-b.invariant (search rules) (c.from-digit.ensures ∙ c.digit_value.ensures)

pub returns : goal.returns
returns c = counting-all c.loop-b.invariant (search rules)
