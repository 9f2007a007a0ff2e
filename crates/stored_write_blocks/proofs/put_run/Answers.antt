-- `stored_write_blocks::put_run` meets its contract. Assumes nothing.
use borrow.Author.Rules.{rules}
use Rattle.stored_write_blocks.proofs.Runs.{unset-room, unset-done, set-short, set_room, set-done}
use Rattle.stored_write_blocks.proofs.put_run.Goals as goal

pub put_unset-requires : goal.put_unset-requires
put_unset-requires c = search (rules, unset-room)

pub returns-then-mark-eq-UNSET : goal.returns-then-mark-eq-UNSET
returns-then-mark-eq-UNSET c = search (rules, unset-done)

pub put_set-requires : goal.put_set-requires
put_set-requires c = search (rules, set-short, set_room)

pub returns : goal.returns
returns c = search (rules, set-done)
