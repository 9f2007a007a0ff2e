-- `pass1_relocations::label_row` meets its contract. Assumes nothing.
use Rattle.pass1_relocations.proofs.Laid.{row-found}
use borrow.Author.Rules.{rules}
use Rattle.pass1_relocations.proofs.label_row.Goals as goal

pub returns-in-Some : goal.returns-in-Some
returns-in-Some c = search (rules, row-found)
