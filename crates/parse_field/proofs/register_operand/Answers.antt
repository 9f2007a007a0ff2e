-- `parse_field::register_operand` meets its contract. Assumes nothing.
use Rattle.parse_field.proofs.Answers.{register-small, register-fits, register-refused, register-took}
use borrow.Author.Rules.{rules}
use Rattle.parse_field.proofs.register_operand.Goals as goal

pub returns-then-m-eq0 : goal.returns-then-m-eq0
returns-then-m-eq0 c = search (rules, register-refused)

pub overflow_mul-n : goal.overflow_mul-n
overflow_mul-n c = search (rules, register-fits)

pub took-requires : goal.took-requires
took-requires c = search (rules, register-small)

pub returns : goal.returns
returns c = search (rules, register-took)
