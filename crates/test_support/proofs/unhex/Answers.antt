-- `test_support::unhex` meets its contract. Assumes nothing.
use borrow.Author.Rules.{rules}
use Rattle.test_support.proofs.Writing.{unhexing-start, unhexing-more, unhexing-size, unhexing-all}
use Rattle.test_support.proofs.unhex.Goals as goal

pub loop-two-init : goal.loop-two-init
loop-two-init c = search (rules, unhexing-start)

pub loop-two-preserved : goal.loop-two-preserved
loop-two-preserved c = unhexing-more c.loop-two.invariant c.in-Some.two.now (search rules) (search rules) (search rules) c.pair.ensures c.put_byte-end.ensures

pub shape_of-out : goal.shape_of-out
shape_of-out c = unhexing-size c.loop-two.invariant

pub returns : goal.returns
returns c = unhexing-all c.loop-two.invariant (search rules)
