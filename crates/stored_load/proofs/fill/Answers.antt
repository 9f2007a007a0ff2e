-- `stored_load::fill` meets its contract: a law for each way through the loop's body. Assumes nothing.
use native.Mathlib.Omega.{arith}
use Rattle.stored_load.proofs.Going.{filling-none, filling-fits, filling-less, filling-next, filling-roomy, filling-both, filling-whole, filling-broken}
use borrow.Author.Rules.{rules}
use Rattle.stored_load.proofs.fill.Goals as goal

pub loop-next-init : goal.loop-next-init
loop-next-init c = filling-none c.requires (λ i. omega (arith, c.type_inv.bytes i)) c.begin-w.ensures

pub put_fitting-requires : goal.put_fitting-requires
put_fitting-requires c = filling-fits c.loop-next.invariant _ _ c.step.ensures c.in-On.is

pub put_run-w-requires : goal.put_run-w-requires
put_run-w-requires c = record { going = filling-next c.loop-next.invariant _ _ c.step.ensures c.in-On.is; roomy = filling-roomy c.loop-next.invariant (search rules) (search rules) }

pub loop-next-smaller : goal.loop-next-smaller
loop-next-smaller c = filling-less c.loop-next.invariant _ _ c.step.ensures c.in-On.is _ c.put_run-w.ensures.further

pub loop-next-preserved : goal.loop-next-preserved
loop-next-preserved c = filling-both c.loop-next.invariant _ _ c.step.ensures c.in-On.is c.put_fitting.ensures (search rules) (search rules) (search rules) (search rules) (search rules) (search rules) c.put_run-w.ensures (search rules) (search rules)

pub returns-in-Ended : goal.returns-in-Ended
returns-in-Ended c = filling-whole c.loop-next.invariant _ _ c.step.ensures c.in-Ended.is

pub returns-in-Broken : goal.returns-in-Broken
returns-in-Broken c = filling-broken c.loop-next.invariant _ _ c.step.ensures c.in-Broken.is
