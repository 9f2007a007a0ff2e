-- `object_check_labels::check_labels` meets its contract. Assumes nothing.
use Rattle.object_check_labels.proofs.Rules.{labels-more, labels-all}
use borrow.Author.Rules.{rules}
use Rattle.object_check_labels.proofs.check_labels.Goals as goal

pub loop-k-preserved : goal.loop-k-preserved
loop-k-preserved c = search (rules, labels-more)

pub returns : goal.returns
returns c = search (rules, labels-all)
