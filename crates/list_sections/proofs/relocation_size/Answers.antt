-- `list_sections::relocation_size` meets its contract. Assumes nothing.
use borrow.Author.Rules.{rules}
use Rattle.list_sections.proofs.Sizes.{sized-reloc}
use Rattle.list_sections.proofs.relocation_size.Goals as goal

pub returns : goal.returns
returns c = search (rules, sized-reloc)
