-- `parse_field::took` meets its contract. Assumes nothing.
use Rattle.parse_field.proofs.Answers.{took-given}
use borrow.Author.Rules.{rules}
use Rattle.parse_field.proofs.took.Goals as goal

pub returns : goal.returns
returns c = search (rules, took-given)
