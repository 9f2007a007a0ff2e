-- `view_text::put` meets its contract. Assumes nothing.
use borrow.Author.Rules.{rules}
use Rattle.view_text.proofs.Putting.{put-none, text-more, text-all}
use Rattle.view_text.proofs.put.Goals as goal

pub loop-b-init : goal.loop-b-init
loop-b-init c = search (rules, put-none)

pub loop-b-preserved : goal.loop-b-preserved
loop-b-preserved c = search (rules, text-more)

pub returns : goal.returns
returns c = search (rules, text-all)
