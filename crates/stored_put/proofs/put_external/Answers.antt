-- `stored_put::put_external` meets its contract. Assumes nothing.
use Rattle.stored_put.proofs.Words.{name-room, labelled-as}
use borrow.Author.Rules.{rules}
use Rattle.stored_put.proofs.put_external.Goals as goal

pub put_label-requires : goal.put_label-requires
put_label-requires c = search (rules, name-room)

pub returns : goal.returns
returns c = search (rules, labelled-as)
