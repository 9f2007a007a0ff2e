-- `link_relocations::is_open` meets its contract. Assumes nothing.
use Rattle.link_relocations.proofs.Sieved.{open_told}
use borrow.Author.Rules.{rules}
use Rattle.link_relocations.proofs.is_open.Goals as goal

pub returns : goal.returns
returns c = search (rules, open_told)
