-- `stored_run::run_from` meets its contract: a law for each way through the loop. Assumes nothing.
use native.Mathlib.Omega.{arith}
use borrow.Author.Rules.{rules}
use Rattle.stored_run.proofs.Running.{running_none, running-there, running-low, running_more}
use Rattle.stored_run.proofs.run_from.Goals as goal

pub loop-k-init : goal.loop-k-init
loop-k-init c = search (rules, running_none)

pub name_start-last-requires : goal.name_start-last-requires
name_start-last-requires c = search (rules, running-there)

pub overflow_add-named : goal.overflow_add-named
overflow_add-named c = omega (arith, running-low c.loop-k.invariant c.label_end-end.ensures c.if-end-at.false c.name_start-last.ensures c.loop-k-test.true)

pub loop-k-preserved : goal.loop-k-preserved
loop-k-preserved c = search (rules, running_more)
