-- `object_check::check_object` meets its contract. Assumes nothing.
use Rattle.object_check.proofs.Whole.{is-short, is-good, is-bad}
use borrow.Author.Rules.{rules}
use Rattle.object_check.proofs.check_object.Goals as goal

pub returns-then-short : goal.returns-then-short
returns-then-short c = search (rules, is-short)

pub returns-then-good : goal.returns-then-good
returns-then-good c = search (rules, is-good)

pub returns : goal.returns
returns c = search (rules, is-bad)
