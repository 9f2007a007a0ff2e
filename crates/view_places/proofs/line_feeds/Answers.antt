-- `view_places::line_feeds` meets its contract. Assumes nothing.
use native.Mathlib.Omega.{arith}
use Rattle.view_places.proofs.LineLaws.{feed-one, feeds-start, feeds-again, feeds-over}
use borrow.Author.Rules.{rules}
use Rattle.view_places.proofs.line_feeds.Goals as goal

pub loop-b-init : goal.loop-b-init
loop-b-init c = (feeds-start _, search rules)

pub overflow_add-n : goal.overflow_add-n
overflow_add-n c = omega (arith, feed-one _ c.feed_of-n.ensures, c.loop-b.invariant.1)

pub loop-b-preserved : goal.loop-b-preserved
loop-b-preserved c = (search (rules, feeds-again), omega (arith, feed-one _ c.feed_of-n.ensures))

pub returns : goal.returns
returns c = search (rules, feeds-over)
