-- `object_check_labels::check_label` meets its contract. Assumes nothing.
use Rattle.object_names.proofs.Plain.{front-part}
use native.Mathlib.Omega.{arith}
use Rattle.object_check_labels.proofs.check_label.Goals as goal

pub is_capital_label-requires : goal.is_capital_label-requires
is_capital_label-requires c = front-part c.requires.1 (omega arith) c.if-end-front.true
