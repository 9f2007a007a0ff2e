-- `list_print::write_object` meets its contract. Assumes nothing.
use Rattle.list_print.proofs.Telling.{object-bytes, object-refused}
use Rattle.list_print.proofs.write_object.Goals as goal

pub returns-in-Ok : goal.returns-in-Ok
returns-in-Ok c = object-bytes _ _ _ c.requires.valid c.requires.names_value c.requires.names_in_bounds _ _ c.list.ensures _ c.in-Ok.is

pub returns-in-Err : goal.returns-in-Err
returns-in-Err c = object-refused _ _ _ c.requires.valid c.requires.names_value c.requires.names_in_bounds _ _ c.list.ensures _ _ c.in-Err.is
