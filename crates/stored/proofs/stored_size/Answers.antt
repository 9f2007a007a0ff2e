-- `stored::stored_size` meets its contract. Assumes nothing.
use borrow.Author.Rules.{rules}
use Rattle.list.proofs.Length.{relocs-named}
use Rattle.stored_write_blocks.proofs.Blocks.{marks-ok}
use Rattle.stored.proofs.Storing.{stored-size}
use Rattle.stored.proofs.stored_size.Goals as goal

pub blocks_size-first-requires : goal.blocks_size-first-requires
blocks_size-first-requires c = record { blocks_ok = c.requires.blocks; marks_ok = marks-ok _ _ _ c.requires.words }

pub relocations_size-third-requires : goal.relocations_size-third-requires
relocations_size-third-requires c = relocs-named _ _ c.requires

pub overflow_add-result : goal.overflow_add-result
overflow_add-result c = search rules

pub overflow_add-result-2 : goal.overflow_add-result-2
overflow_add-result-2 c = search rules

pub overflow_add-result-3 : goal.overflow_add-result-3
overflow_add-result-3 c = search rules

pub returns : goal.returns
returns c = stored-size _ _ _ _ _ c.requires c.blocks_size-first.ensures c.labels_size-second.ensures c.relocations_size-third.ensures
