-- `pass1_symbols::compare_keyed` meets its contract. Assumes nothing.
use Rattle.pass1_symbols.proofs.Steps.{keyed-less, keyed-more}
use borrow.Author.Rules.{rules}
use Rattle.pass1_symbols.proofs.compare_keyed.Goals as goal

pub returns-then-held-key : goal.returns-then-held-key
returns-then-held-key c = search (rules, keyed-less)

pub returns-then-key-held : goal.returns-then-key-held
returns-then-key-held c = search (rules, keyed-more)
