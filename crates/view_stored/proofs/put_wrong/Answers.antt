-- `view_stored::put_wrong` meets its contract. Assumes nothing.
use borrow.Author.Rules.{rules}
use Rattle.view_stored.proofs.Telling.{wrong-after, wrong-here}
use Rattle.view_stored.proofs.put_wrong.Goals as goal

pub returns-then-ends_at : goal.returns-then-ends_at
returns-then-ends_at c = search (rules, wrong-after)

pub returns : goal.returns
returns c = search (rules, wrong-here)
