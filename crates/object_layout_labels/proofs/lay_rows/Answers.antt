-- `object_layout_labels::lay_rows` meets its contract. Assumes nothing.
use Rattle.object_layout_labels.proofs.Loop.{laying-more, laying-all}
use borrow.Author.Rules.{rules}
use Rattle.object_layout_labels.proofs.lay_rows.Goals as goal

pub loop-k-preserved : goal.loop-k-preserved
loop-k-preserved c = search (rules, laying-more)

pub returns : goal.returns
returns c = search (rules, laying-all)
