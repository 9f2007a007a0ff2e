-- `object_names::is_capital_label` meets its contract. Assumes nothing.
use Rattle.object_names.proofs.Plain.{capital-good}
use borrow.Author.Rules.{rules}
use Rattle.object_names.proofs.is_capital_label.Goals as goal

pub returns-then-begins_word : goal.returns-then-begins_word
returns-then-begins_word c = search (rules, capital-good)
