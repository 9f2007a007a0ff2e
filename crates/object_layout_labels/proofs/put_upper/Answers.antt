-- `object_layout_labels::put_upper` meets its contract. Assumes nothing.
use Rattle.object_layout_labels.proofs.Rows.{upped-more}
use borrow.Author.Rules.{rules}
use Rattle.object_layout_labels.proofs.put_upper.Goals as goal

pub loop-i-preserved : goal.loop-i-preserved
loop-i-preserved c = search (rules, upped-more)
