-- `list_sections::relocation_front` meets its contract. Assumes nothing.
use borrow.Author.Rules.{rules}
use Rattle.list_sections.proofs.Texts.{front-reloc}
use Rattle.list_sections.proofs.relocation_front.Goals as goal

pub returns : goal.returns
returns c = search (rules, front-reloc)
