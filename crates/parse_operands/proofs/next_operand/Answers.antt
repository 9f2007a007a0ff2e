-- `parse_operands::next_operand` meets its contract. Assumes nothing.
use Rattle.std.proofs.Common.{rules}
use Rattle.parse_operands.proofs.Following.{next-at, next-refused}
use Rattle.parse_operands.proofs.next_operand.Goals as goal

pub returns : goal.returns
returns c = next-at _ _ _ _ _ _ _ c.operand_place.ensures _ c.in_ok-place.was c.operand_at.ensures

pub returns-in_err-place : goal.returns-in_err-place
returns-in_err-place c = next-refused _ _ _ _ _ _ _ c.operand_place.ensures _ c.in_err-place.was (search rules)
