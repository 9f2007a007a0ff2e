-- `view_stored::put_broken` meets its contract. Assumes nothing.
use borrow.Author.Rules.{rules}
use Rattle.view_stored.proofs.Telling.{broken-line}
use Rattle.view_stored.proofs.put_broken.Goals as goal

pub returns : goal.returns
returns c = search (rules, broken-line)
