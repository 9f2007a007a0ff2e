-- `stored_walk::step_label` meets its contract: a law for each return. Assumes nothing.
use mathlib.Core.Path.{sym, ◌∙◌}
use Rattle.stored_walk.proofs.Labels.{label-room, label-taken, label-refused, label-closed, labels-less, label-index}
use Rattle.stored_walk.proofs.step_label.Goals as goal

pub bounds-places-k : goal.bounds-places-k
bounds-places-k c = label-index _ _ _ c.requires.going (sym c.label_fits.ensures ∙ c.if-label_fits.true)

pub labelled-requires : goal.labelled-requires
labelled-requires c = record { labels_bound = labels-less _ (sym c.label_fits.ensures ∙ c.if-label_fits.true); name_bound = label-room _ _ _ _ _ c.requires.named_at _ c.part_of-name.ensures _ c.name_follows.ensures c.requires.going c.if-name_follows.true }

pub returns-then-name_follows : goal.returns-then-name_follows
returns-then-name_follows c = label-taken _ _ _ _ _ c.requires.named_at _ c.part_of-name.ensures _ c.name_follows.ensures (sym c.label_fits.ensures ∙ c.if-label_fits.true) c.if-name_follows.true _ c.labelled.ensures

pub returns-then-label_fits : goal.returns-then-label_fits
returns-then-label_fits c = label-refused _ _ _ _ _ c.requires.named_at _ c.part_of-name.ensures _ c.name_follows.ensures (sym c.label_fits.ensures ∙ c.if-label_fits.true) c.if-name_follows.false

pub returns : goal.returns
returns c = label-closed _ _ _ _ _ c.requires.named_at (sym c.label_fits.ensures ∙ c.if-label_fits.false)
