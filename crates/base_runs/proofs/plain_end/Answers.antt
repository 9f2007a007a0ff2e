-- `base_runs::plain_end` meets its contract. Assumes nothing.
use borrow.Author.Rules.{rules}
use Prim.Native.Nat.{◌-◌}
use Rattle.base_runs.proofs.Steps.{reaching-past, reaching-start, reaching-step, reaching-end}
use Rattle.base_runs.proofs.plain_end.Goals as goal

pub returns-then-src-at : goal.returns-then-src-at
returns-then-src-at c = search (rules, reaching-past)

pub loop-i-init : goal.loop-i-init
loop-i-init c = search (rules, reaching-start)

pub loop-i-preserved : goal.loop-i-preserved
loop-i-preserved c = search (rules, reaching-step)

pub returns-else-all_plain : goal.returns-else-all_plain
returns-else-all_plain c = search (rules, reaching-end)

pub returns : goal.returns
returns c = search (rules, reaching-end)
