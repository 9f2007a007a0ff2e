-- `stored_check::check_fields` meets its contract. The loop's invariant: the walk tells what was read. Assumes nothing.
use mathlib.Core.Path.{◌∙◌}
use Rattle.stored_check.proofs.Turns.{turning-start, turned_more, turned-run, turned-less, turned-whole, turned-broken}
use Rattle.stored_check.proofs.check_fields.Goals as goal

pub loop-next-init : goal.loop-next-init
loop-next-init c = turning-start _ _ _ (λ i. (c.type_inv.bytes i).fits) c.requires c.begin-w.ensures

pub label_run-w-requires : goal.label_run-w-requires
label_run-w-requires c = (turned_more _ _ _ _ _ c.loop-next.invariant _ c.step.ensures.0 c.step.ensures.1 _ c.in-On.is).going

pub loop-next-smaller : goal.loop-next-smaller
loop-next-smaller c = turned-less _ _ _ _ _ c.loop-next.invariant _ c.step.ensures.0 c.step.ensures.1 _ c.in-On.is c.label_run-w.ensures

pub loop-next-preserved : goal.loop-next-preserved
loop-next-preserved c = turned-run _ _ _ _ _ c.loop-next.invariant _ c.step.ensures.0 c.step.ensures.1 _ c.in-On.is c.label_run-w.ensures

pub shape_of-places-in-Ended : goal.shape_of-places-in-Ended
shape_of-places-in-Ended c = c.step.ensures.0 ∙ c.loop-next.invariant.size

pub returns-in-Ended : goal.returns-in-Ended
returns-in-Ended c = turned-whole _ _ _ _ _ c.loop-next.invariant _ c.step.ensures.0 c.step.ensures.1 _ c.in-Ended.is _ c.acceptance.ensures

pub shape_of-places-in-Broken : goal.shape_of-places-in-Broken
shape_of-places-in-Broken c = c.step.ensures.0 ∙ c.loop-next.invariant.size

pub returns-in-Broken : goal.returns-in-Broken
returns-in-Broken c = turned-broken _ _ _ _ _ c.loop-next.invariant _ c.step.ensures.0 c.step.ensures.1 _ c.in-Broken.is _ c.refusal.ensures
