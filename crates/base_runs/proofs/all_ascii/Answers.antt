-- `base_runs::all_ascii` meets its contract. Assumes nothing.
use borrow.Author.Rules.{rules}
use Prim.Native.Nat.{◌-◌}
use Rattle.base_runs.proofs.Steps.{looked-start, ascii-next, looked-end}
use Rattle.base_runs.proofs.all_ascii.Goals as goal

pub loop-b-init : goal.loop-b-init
loop-b-init c = search (rules, looked-start)

pub loop-b-preserved : goal.loop-b-preserved
loop-b-preserved c = search (rules, ascii-next)

pub returns : goal.returns
returns c = search (rules, looked-end)
