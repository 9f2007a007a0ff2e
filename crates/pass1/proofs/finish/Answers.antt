-- `pass1::finish` meets its contract. Assumes nothing.
use borrow.Author.Rules.{rules}
use Rattle.pass1.proofs.Loop.{finish-open, finish-shut}
use Rattle.pass1.proofs.finish.Goals as goal

pub returns-then-o : goal.returns-then-o
returns-then-o c = search (rules, finish-open)

pub returns : goal.returns
returns c = search (rules, finish-shut)
