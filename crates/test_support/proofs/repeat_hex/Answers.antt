-- `test_support::repeat_hex` meets its contract. Assumes nothing.
use borrow.Author.Rules.{rules}
use Rattle.test_support.proofs.Writing.{repeating-start, repeating-more, repeating-size, repeating-all}
use Rattle.test_support.proofs.repeat_hex.Goals as goal

pub loop-init : goal.loop-init
loop-init c = repeating-start _ _ _ _

pub loop-preserved : goal.loop-preserved
loop-preserved c = repeating-more c.loop.invariant (search rules) c.unhex-end.ensures

pub shape_of-out : goal.shape_of-out
shape_of-out c = repeating-size c.loop.invariant

pub returns : goal.returns
returns c = repeating-all c.loop.invariant (search rules)
