-- `view_stored::put_tag` meets its contract. Assumes nothing.
use borrow.Author.Rules.{rules}
use Rattle.view_stored.proofs.Telling.{tag-end, tag-block, tag-set, tag-unset, tag-label, tag-external, tag-relocation, tag-other}
use Rattle.view_stored.proofs.put_tag.Goals as goal

pub returns-in-0 : goal.returns-in-0
returns-in-0 c = search (rules, tag-end)

pub returns-in-1 : goal.returns-in-1
returns-in-1 c = search (rules, tag-block)

pub returns-in-2 : goal.returns-in-2
returns-in-2 c = search (rules, tag-set)

pub returns-in-3 : goal.returns-in-3
returns-in-3 c = search (rules, tag-unset)

pub returns-in-4 : goal.returns-in-4
returns-in-4 c = search (rules, tag-label)

pub returns-in-5 : goal.returns-in-5
returns-in-5 c = search (rules, tag-external)

pub returns-in-6 : goal.returns-in-6
returns-in-6 c = search (rules, tag-relocation)

pub returns-in_default : goal.returns-in_default
returns-in_default c = search (rules, tag-other)
