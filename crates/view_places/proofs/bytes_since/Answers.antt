-- `view_places::bytes_since` meets its contract. Assumes nothing.
use native.Mathlib.Omega.{arith}
use Rattle.view_places.proofs.LineLaws.{moved-one, since-start, since-again, since-over}
use borrow.Author.Rules.{rules}
use Rattle.view_places.proofs.bytes_since.Goals as goal

pub loop-b-init : goal.loop-b-init
loop-b-init c = (since-start _, search rules)

pub loop-b-preserved : goal.loop-b-preserved
loop-b-preserved c = (search (rules, since-again), omega (arith, moved-one _ _ c.one_on-k.ensures))

pub returns : goal.returns
returns c = search (rules, since-over)
