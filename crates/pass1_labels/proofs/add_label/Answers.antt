-- `pass1_labels::add_label` meets its contract. Assumes nothing.
use mathlib.Core.Path.{refl}
use Rattle.pass1_labels.proofs.Adding.{name-held}
use Rattle.pass1_labels.proofs.add_label.Goals as goal

pub returns-in-Ok : goal.returns-in-Ok
returns-in-Ok c = name-held _ _ _ _ _ _ _ c.requires _ _ refl refl _ _ c.add_symbol.ensures _ _ _ c.in-Ok.is
