-- `view_text::put_spaces` meets its contract. Assumes nothing.
use borrow.Author.Rules.{rules}
use Rattle.view_text.proofs.Putting.{none-in}
use Rattle.view_text.proofs.Texts.{spaces-in}
use Rattle.view_text.proofs.put_spaces.Goals as goal

pub returns-then-at-out : goal.returns-then-at-out
returns-then-at-out c = spaces-in _ _ _ c.if-at-out.true (search rules) (c.fill.ensures.after (λ y e. e))

pub returns : goal.returns
returns c = search (rules, none-in)
