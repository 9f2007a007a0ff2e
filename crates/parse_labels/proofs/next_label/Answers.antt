-- `parse_labels::next_label` meets its contract. Assumes nothing.
use Rattle.parse_labels.proofs.Walking.{first-label, no-label-from}
use Rattle.parse_labels.proofs.next_label.Goals as goal

pub returns-in-At : goal.returns-in-At
returns-in-At c = first-label _ _ _ c.past_lines-place.ensures _ c.label_here.ensures _ _ _ c.in-At.is c.past_colon.ensures

pub returns-in-Nothing : goal.returns-in-Nothing
returns-in-Nothing c = no-label-from _ _ _ c.past_lines-place.ensures _ c.label_here.ensures c.in-Nothing.is
