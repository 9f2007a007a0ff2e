-- `stored_write_blocks::put_block` meets its contract. Assumes nothing.
use borrow.Author.Rules.{rules}
use Rattle.stored_write_blocks.proofs.Blocks.{field_fits, runs_fit, block_out}
use Rattle.stored_write_blocks.proofs.put_block.Goals as goal

pub put_block_field-next-requires : goal.put_block_field-next-requires
put_block_field-next-requires c = search (rules, field_fits)

pub put_runs-requires : goal.put_runs-requires
put_runs-requires c = search (rules, runs_fit)

pub returns : goal.returns
returns c = search (rules, block_out)
