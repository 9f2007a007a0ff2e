-- `stored_fields::put_end` meets its contract. Assumes nothing.
use borrow.Author.Rules.{rules}
use Rattle.stored_fields.proofs.Fields.{end-head, end-done}
use Rattle.stored_fields.proofs.put_end.Goals as goal

pub put_head-requires : goal.put_head-requires
put_head-requires c = search (rules, end-head)

pub returns : goal.returns
returns c = search (rules, end-done)
