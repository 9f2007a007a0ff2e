-- `object_lookup::rev_lookup_label` meets its contract. Assumes nothing.
use Rattle.object_lookup.proofs.Rows.{reversed}
use Rattle.object_lookup.proofs.rev_lookup_label.Goals as goal

pub returns : goal.returns
returns c = reversed _ c.check_object.ensures c.in_ok-check_object.was c.first_at.ensures
