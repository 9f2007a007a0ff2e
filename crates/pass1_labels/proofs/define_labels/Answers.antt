-- `pass1_labels::define_labels` meets its contract. Assumes nothing.
use Rattle.pass1_labels.proofs.Defining.{define-inside, define-outside, define-none}
use Rattle.pass1_labels.proofs.define_labels.Goals as goal

pub returns-then-o : goal.returns-then-o
returns-then-o c = define-inside _ _ _ c.requires.0 _ _ _ c.if-o.true _ _ c.add_labels-answer.ensures _ c.step_of.ensures

pub returns-in-Label : goal.returns-in-Label
returns-in-Label c = define-outside _ _ _ c.requires.0 _ _ _ c.if-o.false _ c.next_label.ensures _ _ _ c.in-Label.is _ c.refused.ensures

pub returns-in-Done : goal.returns-in-Done
returns-in-Done c = define-none _ _ _ c.requires.0 _ _ _ c.if-o.false _ c.next_label.ensures c.in-Done.is
