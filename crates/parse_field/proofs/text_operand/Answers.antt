-- `parse_field::text_operand` meets its contract. Assumes nothing.
use Rattle.parse_field.proofs.Answers.{text-took, text-refused}
use borrow.Author.Rules.{rules}
use Rattle.parse_field.proofs.text_operand.Goals as goal

pub returns-then-takes_text : goal.returns-then-takes_text
returns-then-takes_text c = search (rules, text-took)

pub returns : goal.returns
returns c = search (rules, text-refused)
