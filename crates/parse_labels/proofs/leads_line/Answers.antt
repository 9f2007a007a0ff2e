-- `parse_labels::leads_line` meets its contract. Assumes nothing.
use mathlib.Core.Path.{refl}
use Rattle.parse_labels.specs.Walk.{leads_line}
use Rattle.parse_labels.proofs.leads_line.Goals as goal

pub returns : goal.returns
unfolding leads_line
returns c = refl
