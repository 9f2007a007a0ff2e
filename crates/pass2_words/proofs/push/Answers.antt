-- `pass2_words::push` meets its contract. Assumes nothing.
use borrow.Author.Rules.{rules}
use Rattle.pass2_words.proofs.Cells.{wrote_one}
use Rattle.pass2_words.proofs.push.Goals as goal

pub returns : goal.returns
returns c = search (rules, wrote_one)
