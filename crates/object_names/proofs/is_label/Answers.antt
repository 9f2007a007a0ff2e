-- `object_names::is_label` meets its contract. Assumes nothing.
use Rattle.object_names.proofs.Judged.{name-long, name-fits}
use Rattle.object_names.proofs.Plain.{plain-told}
use borrow.Author.Rules.{rules}
use Rattle.object_names.proofs.is_label.Goals as goal

pub returns-then-name-gt-NAME_BYTES : goal.returns-then-name-gt-NAME_BYTES
returns-then-name-gt-NAME_BYTES c = search (rules, name-long)

pub returns-then-is_plain : goal.returns-then-is_plain
returns-then-is_plain c = search (rules, plain-told)

pub returns : goal.returns
returns c = search (rules, name-fits)
