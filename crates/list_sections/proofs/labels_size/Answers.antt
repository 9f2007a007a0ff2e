-- `list_sections::labels_size` meets its contract. Assumes nothing.
use borrow.Author.Rules.{rules}
use Rattle.rules.specs.Buffers.{view_labels}
use Rattle.list_sections.proofs.Sizes.{label-short, added_none, added_more, added-all}
use Rattle.list_sections.proofs.labels_size.Goals as goal

pub loop-k-init : goal.loop-k-init
loop-k-init c = search (rules, added_none)

pub label_size-size-requires : goal.label_size-size-requires
label_size-size-requires c = let short = label-short _ _ _ c.requires _ c.loop-k-test.true in search rules

pub loop-k-preserved : goal.loop-k-preserved
loop-k-preserved c = search (rules, added_more)

pub returns : goal.returns
unfolding view_labels
returns c = search (rules, added-all)
