-- `stored_write_labels::relocations_size` meets its contract. Assumes nothing.
use borrow.Author.Rules.{rules}
use Rattle.stored_write_labels.proofs.Rows.{reloc-rows}
use Rattle.stored_write_labels.proofs.Sizes.{added_none, added_more, added-all}
use Rattle.stored_write_labels.proofs.relocations_size.Goals as goal

pub loop-k-init : goal.loop-k-init
loop-k-init c = search (rules, added_none)

pub loop-k-preserved : goal.loop-k-preserved
loop-k-preserved c = search (rules, added_more)

pub returns : goal.returns
returns c = search (rules, reloc-rows, added-all)
