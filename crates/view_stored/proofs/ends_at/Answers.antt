-- `view_stored::ends_at` meets its contract. Assumes nothing.
use borrow.Author.Rules.{rules}
use Rattle.view_stored.proofs.Telling.{ends-told}
use Rattle.view_stored.proofs.ends_at.Goals as goal

pub returns : goal.returns
returns c = search (rules, ends-told)
