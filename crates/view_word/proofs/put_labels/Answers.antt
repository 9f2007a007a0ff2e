-- `view_word::put_labels` meets its contract. Assumes nothing.
use Rattle.std.proofs.Common.{rules}
use Rattle.view_word.proofs.Rows.{own-none, own-more, own-size, own-all}
use Rattle.view_word.proofs.put_labels.Goals as goal

pub loop-row-init : goal.loop-row-init
loop-row-init c = search (rules, own-none)

pub loop-row-preserved : goal.loop-row-preserved
loop-row-preserved c = search (rules, own-more)

pub shape_of-out : goal.shape_of-out
shape_of-out c = search (rules, own-size)

pub returns : goal.returns
returns c = search (rules, own-all)
