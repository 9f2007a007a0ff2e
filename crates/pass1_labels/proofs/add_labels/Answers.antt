-- `pass1_labels::add_labels` meets its contract. Assumes nothing.
use Rattle.std.proofs.Common.{rules, ◌≡◌, ◌∙◌, sym, Err}
use Rattle.pass1_labels.proofs.Adding.{going-ready, going_less, going_on, going-refused, going_done}
use Rattle.pass1_labels.proofs.add_labels.Goals as goal

pub add_label-requires : goal.add_label-requires
add_label-requires c = going-ready _ _ _ _ _ _ _ _ _ c.loop-from.invariant _ c.label_before.ensures _ _ _ c.in-Label.is

pub loop-from-smaller : goal.loop-from-smaller
loop-from-smaller c = going_less _ _ _ _ _ _ _ _ _ c.loop-from.invariant _ c.label_before.ensures _ _ _ c.in-Label.is

pub loop-from-preserved : goal.loop-from-preserved
loop-from-preserved c = going_on _ _ _ _ _ _ _ _ _ c.loop-from.invariant _ c.label_before.ensures _ _ _ c.in-Label.is _ _ c.add_label.ensures _ c.in_ok-held-in-Label.was (search rules)

pub returns-in_err-held-in-Label : goal.returns-in_err-held-in-Label
returns-in_err-held-in-Label c =
    let e : c.from_residual.result ≡ Err c.in_err-held-in-Label.field-0.0 = search rules in
    let z : c.add_label.result ≡ c.from_residual.result = c.in_err-held-in-Label.was ∙ sym e in
    going-refused _ _ _ _ _ _ _ _ _ c.loop-from.invariant _ c.label_before.ensures _ _ _ c.in-Label.is _ _ (rw z at c.add_label.ensures) _ e

pub returns-in-Done : goal.returns-in-Done
returns-in-Done c = going_done _ _ _ _ _ _ _ _ _ c.loop-from.invariant _ c.label_before.ensures c.in-Done.is
