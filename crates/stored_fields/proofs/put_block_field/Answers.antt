-- `stored_fields::put_block_field` meets its contract. Assumes nothing.
use borrow.Author.Rules.{rules}
use Rattle.stored_fields.proofs.Fields.{block-head, block_start, block_size, block-done}
use Rattle.stored_fields.proofs.put_block_field.Goals as goal

pub put_head-first-requires : goal.put_head-first-requires
put_head-first-requires c = search (rules, block-head)

pub put_number-next-requires : goal.put_number-next-requires
put_number-next-requires c = search (rules, block_start)

pub put_number-requires : goal.put_number-requires
put_number-requires c = search (rules, block_size)

pub returns : goal.returns
returns c = search (rules, block-done)
