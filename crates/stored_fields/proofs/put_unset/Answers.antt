-- `stored_fields::put_unset` meets its contract. Assumes nothing.
use borrow.Author.Rules.{rules}
use Rattle.stored_fields.proofs.Fields.{gap-head, gap-count, gap-done}
use Rattle.stored_fields.proofs.put_unset.Goals as goal

pub put_head-next-requires : goal.put_head-next-requires
put_head-next-requires c = search (rules, gap-head)

pub put_number-requires : goal.put_number-requires
put_number-requires c = search (rules, gap-count)

pub returns : goal.returns
returns c = search (rules, gap-done)
