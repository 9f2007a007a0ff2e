-- `object_check_labels::is_before` meets its contract. Assumes nothing.
use Rattle.object_check_labels.proofs.Rules.{before-less, before_same, before_more}
use borrow.Author.Rules.{rules}
use Rattle.object_check_labels.proofs.is_before.Goals as goal

pub returns-in-Less : goal.returns-in-Less
returns-in-Less c = search (rules, before-less)

pub returns-in-Equal : goal.returns-in-Equal
returns-in-Equal c = search (rules, before_same)

pub returns-in-Greater : goal.returns-in-Greater
returns-in-Greater c = search (rules, before_more)
