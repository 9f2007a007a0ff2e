-- `list_sections::relocations_size` meets its contract. Assumes nothing.
use borrow.Author.Rules.{rules}
use Rattle.rules.specs.Buffers.{view_relocs}
use Rattle.list_sections.proofs.Sizes.{added_none, added_more, added-all}
use Rattle.list_sections.proofs.relocations_size.Goals as goal

pub loop-k-init : goal.loop-k-init
loop-k-init c = search (rules, added_none)

pub loop-k-preserved : goal.loop-k-preserved
loop-k-preserved c = search (rules, added_more)

pub returns : goal.returns
unfolding view_relocs
returns c = search (rules, added-all)
