-- `object_names::is_plain` meets its contract. Assumes nothing.
use Rattle.object_names.proofs.Plain.{plain-long}
use borrow.Author.Rules.{rules}
use Rattle.object_names.proofs.is_plain.Goals as goal

pub returns-then-name-gt-LONGEST : goal.returns-then-name-gt-LONGEST
returns-then-name-gt-LONGEST c = search (rules, plain-long)
