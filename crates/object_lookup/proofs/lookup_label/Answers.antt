-- `object_lookup::lookup_label` meets its contract. Assumes nothing.
use Rattle.object_lookup.proofs.Rows.{looked-up}
use Rattle.object_lookup.proofs.lookup_label.Goals as goal

pub returns : goal.returns
returns c = looked-up _ c.check_object.ensures _ c.say_name.result c.in_ok-check_object.was c.say_name.ensures
