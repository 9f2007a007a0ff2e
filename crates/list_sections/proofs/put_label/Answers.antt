-- `list_sections::put_label` meets its contract. Assumes nothing.
use borrow.Author.Rules.{rules}
use Rattle.list_sections.proofs.Texts.{fits-defined, fits-outer, done-defined, done-outer}
use Rattle.list_sections.proofs.put_label.Goals as goal

pub put_line-requires : goal.put_line-requires
put_line-requires c = search (rules, fits-defined)

pub returns-then-labels-i-eq-DEFINED : goal.returns-then-labels-i-eq-DEFINED
returns-then-labels-i-eq-DEFINED c = search (rules, done-defined)

pub put_line-requires-2 : goal.put_line-requires-2
put_line-requires-2 c = search (rules, fits-outer)

pub returns : goal.returns
returns c = search (rules, done-outer)
