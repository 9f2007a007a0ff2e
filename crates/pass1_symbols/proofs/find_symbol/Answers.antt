-- `pass1_symbols::find_symbol` meets its contract. Assumes nothing.
use Rattle.pass1_symbols.proofs.Steps.{found-row, found_none}
use borrow.Author.Rules.{rules}
use Rattle.pass1_symbols.proofs.find_symbol.Goals as goal

pub returns-in-Ok : goal.returns-in-Ok
returns-in-Ok c = search (rules, found-row)

pub returns-in-Err : goal.returns-in-Err
returns-in-Err c = search (rules, found_none)
