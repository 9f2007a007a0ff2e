-- `view_far::has_label` meets its contract: the labels from here on have the name where those from the place have it. Assumes nothing.
use mathlib.Core.Path.{refl}
use Rattle.view_far.proofs.Naming.{label-less, label_same, label-more, label-done}
use Rattle.view_far.proofs.has_label.Goals as goal

pub loop-from-init : goal.loop-from-init
loop-from-init c = refl

pub returns-then-same_name : goal.returns-then-same_name
returns-then-same_name c = label_same _ _ _ c.next_label.ensures _ _ c.loop-from.invariant _ _ _ c.in-Label.is c.label_text-name.ensures c.label_text.ensures c.same_name.ensures c.if-same_name.true

pub loop-from-smaller : goal.loop-from-smaller
loop-from-smaller c = label-less _ _ _ c.next_label.ensures _ _ _ c.in-Label.is

pub loop-from-preserved : goal.loop-from-preserved
loop-from-preserved c = label-more _ _ _ c.next_label.ensures _ _ c.loop-from.invariant _ _ _ c.in-Label.is c.label_text-name.ensures c.label_text.ensures c.same_name.ensures c.if-same_name.false

pub returns-in-Done : goal.returns-in-Done
returns-in-Done c = label-done _ _ _ c.next_label.ensures _ _ c.loop-from.invariant c.in-Done.is
