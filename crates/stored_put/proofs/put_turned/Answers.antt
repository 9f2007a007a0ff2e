-- `stored_put::put_turned` meets its contract. Assumes nothing.
use borrow.Author.Rules.{rules}
use Rattle.stored_put.proofs.Words.{copied-all}
use Rattle.stored_put.proofs.put_turned.Goals as goal

pub returns : goal.returns
returns c = search (rules, copied-all)
