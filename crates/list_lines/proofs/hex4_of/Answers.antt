-- `list_lines::hex4_of` meets its contract. Assumes nothing.
use borrow.Author.Rules.{rules}
use Rattle.list_lines.proofs.Digits.{four}
use Rattle.list_lines.proofs.hex4_of.Goals as goal

pub returns : goal.returns
returns c = search (rules, four)
