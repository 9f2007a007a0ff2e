-- `list_sections::label_front` meets its contract. Assumes nothing.
use borrow.Author.Rules.{rules}
use Rattle.list_sections.proofs.Texts.{front-label}
use Rattle.list_sections.proofs.label_front.Goals as goal

pub returns : goal.returns
returns c = search (rules, front-label)
