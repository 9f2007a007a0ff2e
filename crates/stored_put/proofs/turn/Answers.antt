-- `stored_put::turn` meets its contract. Assumes nothing.
use borrow.Author.Rules.{rules}
use Rattle.stored_put.proofs.Words.{turned-all}
use Rattle.stored_put.proofs.turn.Goals as goal

pub returns : goal.returns
returns c = search (rules, turned-all)
