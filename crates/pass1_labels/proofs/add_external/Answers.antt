-- `pass1_labels::add_external` meets its contract. Assumes nothing.
use Rattle.pass1_labels.proofs.Defining.{define-external}
use Rattle.pass1_labels.proofs.add_external.Goals as goal

pub returns : goal.returns
returns c = λ s t f n p. define-external _ _ _ c.requires.0 _ _ _ _ _ _ c.add_label-answer.ensures _ c.step_of.ensures s t f n p
