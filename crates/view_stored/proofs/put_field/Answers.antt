-- `view_stored::put_field` meets its contract. Assumes nothing.
use borrow.Author.Rules.{rules}
use Rattle.view_stored.proofs.Telling.{field-over, field_cut, field_found}
use Rattle.view_stored.proofs.put_field.Goals as goal

pub returns-in-Over : goal.returns-in-Over
returns-in-Over c = search (rules, field-over)

pub returns-in-CutShort : goal.returns-in-CutShort
returns-in-CutShort c = search (rules, field_cut)

pub returns-in-Found : goal.returns-in-Found
returns-in-Found c = search (rules, field_found)
