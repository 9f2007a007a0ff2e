-- `parse_field::label_operand` meets its contract. Assumes nothing.
use Rattle.parse_field.proofs.Answers.{label-refused, label-took, label-long}
use borrow.Author.Rules.{rules}
use Rattle.parse_field.proofs.label_operand.Goals as goal

pub returns-then-m-eq0 : goal.returns-then-m-eq0
returns-then-m-eq0 c = search (rules, label-refused)

pub returns-then-gap-le-NAME_BYTES : goal.returns-then-gap-le-NAME_BYTES
returns-then-gap-le-NAME_BYTES c = search (rules, label-took)

pub returns : goal.returns
returns c = search (rules, label-long)
