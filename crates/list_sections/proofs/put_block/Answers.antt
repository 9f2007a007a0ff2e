-- `list_sections::put_block` meets its contract. Assumes nothing.
use borrow.Author.Rules.{rules}
use Rattle.list_sections.proofs.Texts.{head-fits, cells_fit, block-done}
use Rattle.list_sections.proofs.put_block.Goals as goal

pub put_text-next-requires : goal.put_text-next-requires
put_text-next-requires c = search (rules, head-fits)

pub put_cells-requires : goal.put_cells-requires
put_cells-requires c = search (rules, cells_fit)

pub returns : goal.returns
returns c = search (rules, block-done)
