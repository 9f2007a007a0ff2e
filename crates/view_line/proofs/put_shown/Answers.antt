-- `view_line::put_shown` meets its contract. Assumes nothing.
use Rattle.view_line.proofs.LineTexts.{mapped-all, mapped-more}
use Rattle.view_text.proofs.Putting.{put-none, put-size}
use borrow.Author.Rules.{rules}
use Rattle.view_line.proofs.put_shown.Goals as goal

pub loop-b-init : goal.loop-b-init
loop-b-init c = search (rules, put-none)

pub loop-b-preserved : goal.loop-b-preserved
loop-b-preserved c = search (rules, mapped-more)

pub shape_of-out : goal.shape_of-out
shape_of-out c = search (rules, put-size)

pub returns : goal.returns
returns c = search (rules, mapped-all)
