-- `view_places::refusal_name` meets its contract: the constant table is the rule's. Assumes nothing.
use Rattle.rules.specs.Answers.{refusals, name_in, refusal_name}
use Rattle.view_places.specs.Names.{names, filled, rows}
use Rattle.view_places.proofs.NameLaws.{name_in_lem, name_out}
use Rattle.view_places.proofs.refusal_name.Goals as goal

pub returns-then-number-lt-NUMBERS : goal.returns-then-number-lt-NUMBERS
unfolding rows names filled refusal_name refusals name_in
returns-then-number-lt-NUMBERS c = name_in_lem _ c.if-number-lt-NUMBERS.true

pub returns : goal.returns
unfolding filled
returns c = name_out _ c.if-number-lt-NUMBERS.false
