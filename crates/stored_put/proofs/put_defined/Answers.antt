-- `stored_put::put_defined` meets its contract. Assumes nothing.
use Rattle.stored_put.proofs.Words.{name-room}
use borrow.Author.Rules.{rules}
use Rattle.stored_put.proofs.put_defined.Goals as goal

pub put_label-requires : goal.put_label-requires
put_label-requires c = search (rules, name-room)
