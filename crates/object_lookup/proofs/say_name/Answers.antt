-- `object_lookup::say_name` meets its contract. Assumes nothing.
use Rattle.object_lookup.proofs.Rows.{rising, taken_in, said_row, said-nothing}
use borrow.Author.Rules.{rules}
use Rattle.object_lookup.proofs.say_name.Goals as goal

pub slot_of-requires : goal.slot_of-requires
slot_of-requires c = search (rules, rising)

pub label_at-requires : goal.label_at-requires
label_at-requires c = search (rules, taken_in)

pub returns-in-Ok : goal.returns-in-Ok
returns-in-Ok c = search (rules, said_row)

pub returns-in-Err : goal.returns-in-Err
returns-in-Err c = search (rules, said-nothing)
