-- `view_stored::put_offset` meets its contract. Assumes nothing.
use borrow.Author.Rules.{rules}
use Rattle.view_stored.proofs.Telling.{offset-put}
use Rattle.view_stored.proofs.put_offset.Goals as goal

pub returns : goal.returns
returns c = search (rules, offset-put)
