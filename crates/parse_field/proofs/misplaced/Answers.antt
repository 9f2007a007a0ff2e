-- `parse_field::misplaced` meets its contract. Assumes nothing.
use Rattle.parse_field.proofs.Answers.{misplaced-own, misplaced-other}
use borrow.Author.Rules.{rules}
use Rattle.parse_field.proofs.misplaced.Goals as goal

pub returns-then-t-eq-FAULT : goal.returns-then-t-eq-FAULT
returns-then-t-eq-FAULT c = search (rules, misplaced-own)

pub returns : goal.returns
returns c = search (rules, misplaced-other)
