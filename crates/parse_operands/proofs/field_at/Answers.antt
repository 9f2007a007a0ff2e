-- `parse_operands::field_at` meets its contract. Assumes nothing.
use Rattle.parse_operands.proofs.Following.{third-field}
use borrow.Author.Rules.{rules}
use Rattle.parse_operands.proofs.field_at.Goals as goal

pub returns : goal.returns
returns c = search (rules, third-field)
