-- `parse_field::number_operand` meets its contract. Assumes nothing.
use Rattle.parse_field.proofs.Answers.{number-low, minus-small, minus-fits, plus-small, plus-fits, number-refused, minus-took, minus-out, plus-took, plus-out}
use borrow.Author.Rules.{rules}
use Rattle.parse_field.proofs.number_operand.Goals as goal

pub returns-then-range-eq0 : goal.returns-then-range-eq0
returns-then-range-eq0 c = search (rules, number-refused)

pub overflow_sub-n : goal.overflow_sub-n
overflow_sub-n c = search (rules, number-low)

pub overflow_add-n : goal.overflow_add-n
overflow_add-n c = search (rules, minus-fits)

pub took-requires : goal.took-requires
took-requires c = search (rules, minus-small)

pub returns-then-within : goal.returns-then-within
returns-then-within c = search (rules, minus-took)

pub returns-then-t-eq-NEGATIVE : goal.returns-then-t-eq-NEGATIVE
returns-then-t-eq-NEGATIVE c = search (rules, minus-out)

pub overflow_add-n-then-within-2 : goal.overflow_add-n-then-within-2
overflow_add-n-then-within-2 c = search (rules, plus-fits)

pub took-requires-then-within-2 : goal.took-requires-then-within-2
took-requires-then-within-2 c = search (rules, plus-small)

pub returns-then-within-2 : goal.returns-then-within-2
returns-then-within-2 c = search (rules, plus-took)

pub returns : goal.returns
returns c = search (rules, plus-out)
