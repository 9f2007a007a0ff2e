-- `parse_rows::spells` meets its contract. Assumes nothing.
use Rattle.parse_rows.proofs.Names.{four_same}
use borrow.Author.Rules.{rules}
use Rattle.parse_rows.proofs.spells.Goals as goal

pub returns : goal.returns
returns c = search (rules, four_same)
