-- `stored_write_labels::put_relocation` meets its contract. Assumes nothing.
use borrow.Author.Rules.{rules}
use Rattle.stored_write_labels.proofs.Rows.{reloc-short, reloc-fits, reloc-done}
use Rattle.stored_write_labels.proofs.put_relocation.Goals as goal

pub put_addressed-requires : goal.put_addressed-requires
put_addressed-requires c = search (rules, reloc-short, reloc-fits)

pub returns : goal.returns
returns c = search (rules, reloc-done)
