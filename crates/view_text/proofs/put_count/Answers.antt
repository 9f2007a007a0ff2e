-- `view_text::put_count` meets its contract. Assumes nothing.
use borrow.Author.Rules.{rules}
use Rattle.view_text.proofs.Texts.{count-one, count-many}
use Rattle.view_text.proofs.put_count.Goals as goal

pub returns-then-n-eq1 : goal.returns-then-n-eq1
returns-then-n-eq1 c = search (rules, count-one)

pub returns : goal.returns
returns c = search (rules, count-many)
