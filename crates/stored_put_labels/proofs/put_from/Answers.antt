-- `stored_put_labels::put_from` meets its contract: a law for each way through the loop. Assumes nothing.
use mathlib.Core.Path.{◌≡◌}
use native.Mathlib.Omega.{arith}
use borrow.Author.Rules.{rules}
use Rattle.stored_run.proofs.Running.{running-there, running-low}
use Rattle.stored_put_labels.proofs.Rows.{putting-none, putting-stop, putting-named, putting-room, putting-more}
use Rattle.stored_put_labels.proofs.put_from.Goals as goal

pub loop-k-init : goal.loop-k-init
loop-k-init c = search (rules, putting-none)

pub put_named-requires : goal.put_named-requires
put_named-requires c = search (rules, putting-named, putting-room)

pub name_start-last-requires : goal.name_start-last-requires
name_start-last-requires c = search (rules, running-there)

pub overflow_add-named : goal.overflow_add-named
overflow_add-named c = omega (arith, running-low c.loop-k.invariant.running c.label_end-end.ensures c.if-end-at.false c.name_start-last.ensures c.loop-k-test.true)

pub loop-k-preserved : goal.loop-k-preserved
loop-k-preserved c = search (rules, putting-more)

pub returns : goal.returns
returns c =
    let all : 1024 ≡ c.loop-k.k = omega arith in
    putting-stop c.loop-k.invariant (rw all at c.behind_labels-2.ensures)
