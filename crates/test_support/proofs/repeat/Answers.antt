-- `test_support::repeat` meets its contract. Assumes nothing.
use borrow.Author.Rules.{rules}
use Rattle.view_text.proofs.Putting.{none-in}
use Rattle.test_support.proofs.Writing.{copies-in}
use Rattle.test_support.proofs.repeat.Goals as goal

pub returns-then-at-out : goal.returns-then-at-out
returns-then-at-out c = copies-in _ _ _ _ c.if-at-out.true (search rules) (c.fill.ensures.after (λ y e. e))

pub returns : goal.returns
returns c = search (rules, none-in)
