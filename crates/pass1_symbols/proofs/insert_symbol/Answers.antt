-- `pass1_symbols::insert_symbol` meets its contract. Assumes nothing.
use Rattle.pass1_symbols.proofs.Rows.{symbol-inserted}
use borrow.Author.Rules.{rules}
use Rattle.pass1_symbols.proofs.insert_symbol.Goals as goal

pub returns : goal.returns
returns c = search (rules, symbol-inserted)
