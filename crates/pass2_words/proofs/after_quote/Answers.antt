-- `pass2_words::after_quote` meets its contract. Assumes nothing.
use borrow.Author.Rules.{rules}
use Rattle.pass2_words.proofs.Chars.{no-chars}
use Rattle.pass2_words.proofs.after_quote.Goals as goal

pub returns : goal.returns
returns c = search (rules, no-chars)
