-- `test_support::past` meets its contract. Assumes nothing.
use Rattle.test_support.proofs.Reading.{past-in, past-out}
use borrow.Author.Rules.{rules}
use Rattle.test_support.proofs.past.Goals as goal

pub returns-then-at-text : goal.returns-then-at-text
returns-then-at-text c = search (rules, past-in)

pub returns : goal.returns
returns c = search (rules, past-out)
