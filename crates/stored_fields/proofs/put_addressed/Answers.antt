-- `stored_fields::put_addressed` meets its contract. Assumes nothing.
use borrow.Author.Rules.{rules}
use Rattle.stored_fields.proofs.Fields.{head-fits, address-fits, name-fits, addressed}
use Rattle.stored_fields.proofs.put_addressed.Goals as goal

pub put_head-first-requires : goal.put_head-first-requires
put_head-first-requires c = search (rules, head-fits)

pub put_number-next-requires : goal.put_number-next-requires
put_number-next-requires c = search (rules, address-fits)

pub put_name-requires : goal.put_name-requires
put_name-requires c = search (rules, name-fits)

pub returns : goal.returns
returns c = search (rules, addressed)
