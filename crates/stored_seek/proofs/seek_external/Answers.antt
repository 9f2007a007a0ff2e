-- `stored_seek::seek_external` meets its contract. The loop's invariant: rows below `low` are before the name, rows from `high` on after it. Assumes nothing.
use mathlib.Core.Path.{refl}
use borrow.Author.Rules.{rules}
use Rattle.stored_seek.proofs.Externals.{narrowed-start, narrowed-end, middle-in, place_in, narrowed-up, narrowed-down, hit-external, hit-defined}
use Rattle.stored_seek.proofs.seek_external.Goals as goal

pub loop-low-init : goal.loop-low-init
loop-low-init c = search (rules, narrowed-start)

pub offset_bounds-places-middle : goal.offset_bounds-places-middle
offset_bounds-places-middle c = search (rules, middle-in)

pub bounds-places-middle : goal.bounds-places-middle
bounds-places-middle c = search (rules, middle-in)

pub loop-low-preserved-in-Less : goal.loop-low-preserved-in-Less
loop-low-preserved-in-Less c = narrowed-up _ _ _ _ _ _ c.loop-low.invariant c.loop-low-test.true _ refl _ c.label_name.ensures _ c.compare_bytes.ensures c.in-Less.is

pub loop-low-preserved : goal.loop-low-preserved
loop-low-preserved c = narrowed-down _ _ _ _ _ _ c.loop-low.invariant c.loop-low-test.true _ refl _ c.label_name.ensures _ c.compare_bytes.ensures c.in-Greater.is

pub bounds-bytes-at : goal.bounds-bytes-at
bounds-bytes-at c = search (rules, place_in)

pub returns-then-bytes-at-eq-EXTERNAL_LABEL : goal.returns-then-bytes-at-eq-EXTERNAL_LABEL
returns-then-bytes-at-eq-EXTERNAL_LABEL c s end h = hit-external _ _ _ _ _ _ c.loop-low.invariant c.loop-low-test.true _ refl _ c.label_name.ensures _ c.compare_bytes.ensures c.in-Equal.is s end h c.if-bytes-at-eq-EXTERNAL_LABEL.true

pub returns-in-Equal : goal.returns-in-Equal
returns-in-Equal c s end h = hit-defined _ _ _ _ _ _ c.loop-low.invariant c.loop-low-test.true _ refl _ c.label_name.ensures _ c.compare_bytes.ensures c.in-Equal.is s end h c.if-bytes-at-eq-EXTERNAL_LABEL.false

pub returns : goal.returns
returns c = search (rules, narrowed-end)
