-- `link_relocations::merge_relocations` meets its contract. Assumes nothing.
use Rattle.base_buffers.proofs.Filled.{laid-after}
use Rattle.object_layout_labels.proofs.Loop.{blank_of}
use Rattle.link_relocations.proofs.Merging.{both-after}
use borrow.Author.Rules.{rules}
use Rattle.link_relocations.proofs.merge_relocations.Goals as goal

pub merge_rows-requires : goal.merge_rows-requires
merge_rows-requires c = (search (rules, both-after), search (rules, blank_of))

pub returns : goal.returns
returns c = search (rules, laid-after)
