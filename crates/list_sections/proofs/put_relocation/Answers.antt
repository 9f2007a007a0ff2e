-- `list_sections::put_relocation` meets its contract. Assumes nothing.
use borrow.Author.Rules.{rules}
use Rattle.list_sections.proofs.Blocks.{fits-reloc, done-reloc}
use Rattle.list_sections.proofs.put_relocation.Goals as goal

pub put_line-requires : goal.put_line-requires
put_line-requires c = search (rules, fits-reloc)

pub returns : goal.returns
returns c = search (rules, done-reloc)
