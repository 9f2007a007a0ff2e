-- `pass1_relocations::add_relocation` meets its contract. Assumes nothing.
use Rattle.pass1_relocations.proofs.Steps.{add-renamed, add-full, add-new}
use borrow.Author.Rules.{rules}
use Rattle.pass1_relocations.proofs.add_relocation.Goals as goal

pub returns-then-n-ge-RELOCATIONS : goal.returns-then-n-ge-RELOCATIONS
returns-then-n-ge-RELOCATIONS c = search (rules, add-full)

pub returns : goal.returns
returns c = search (rules, add-new)

pub returns-then-is_at : goal.returns-then-is_at
returns-then-is_at c = search (rules, add-renamed)
