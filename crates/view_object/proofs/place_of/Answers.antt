-- `view_object::place_of` meets its contract. Assumes nothing.
use Rattle.std.proofs.Common.{rules}
use Rattle.view_object.specs.Found.{found}
use Rattle.view_object.proofs.Rows.{place-start, place_here, place-on, place_none}
use Rattle.view_object.proofs.place_of.Goals as goal

pub loop-k-init : goal.loop-k-init
unfolding found
loop-k-init c = search (rules, place-start)

pub returns-then-left-width : goal.returns-then-left-width
unfolding found
returns-then-left-width c = place_here _ c.loop-k.invariant (search rules) c.block_cell-start.ensures c.block_cell-size.ensures c.from-width.ensures c.if-left-width.true

pub loop-k-preserved : goal.loop-k-preserved
unfolding found
loop-k-preserved c = place-on _ c.loop-k.invariant (search rules) c.block_cell-size.ensures c.from-width.ensures c.if-left-width.false

pub returns : goal.returns
unfolding found
returns c = search (rules, place_none)
