-- `stored_fields::put_named` meets its contract. Assumes nothing.
use borrow.Author.Rules.{rules}
use Rattle.stored_fields.proofs.Fields.{head-fits, rest-fits, named}
use Rattle.stored_fields.proofs.put_named.Goals as goal

pub put_head-next-requires : goal.put_head-next-requires
put_head-next-requires c = search (rules, head-fits)

pub put_name-requires : goal.put_name-requires
put_name-requires c = search (rules, rest-fits)

pub returns : goal.returns
returns c = search (rules, named)
