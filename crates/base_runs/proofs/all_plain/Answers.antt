-- `base_runs::all_plain` meets its contract. Assumes nothing.
use Prim.Native.Nat.{◌-◌}
use Rattle.base_text.specs.declared.Class.TheVariants.{Plain}
use Rattle.base_runs.proofs.Steps.{looked-start, plain-next, looked-end}
use Rattle.base_runs.proofs.all_plain.Goals as goal

pub loop-b-init : goal.loop-b-init
loop-b-init c = looked-start Plain _

pub loop-b-preserved : goal.loop-b-preserved
loop-b-preserved c = plain-next _ c.loop-b.no_quote c.loop-b.no_backslash c.loop-b.no_feed c.loop-b.no_return c.loop-b.invariant c.loop-b-test.true

pub returns : goal.returns
returns c = looked-end _ _ c.loop-b.invariant c.loop-b-test.false
