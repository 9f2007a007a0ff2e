-- `pass1_symbols::lay_symbols` meets its contract. Assumes nothing.
use Rattle.pass1_symbols.proofs.Laid.{laid-symbols}
use borrow.Author.Rules.{rules}
use Rattle.pass1_symbols.proofs.lay_symbols.Goals as goal

pub returns : goal.returns
returns c = search (rules, laid-symbols)
