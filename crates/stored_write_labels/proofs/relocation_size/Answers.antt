-- `stored_write_labels::relocation_size` meets its contract. Assumes nothing.
use borrow.Author.Rules.{rules}
use Rattle.stored_write_labels.proofs.Sizes.{sized-reloc}
use Rattle.stored_write_labels.proofs.relocation_size.Goals as goal

pub returns : goal.returns
returns c = search (rules, sized-reloc)
