-- `link_words::settle_word` writes an address as a word, unless there is none. Assumes nothing.
use Rattle.link_words.proofs.Settling.{word-open, word-written}
use borrow.Author.Rules.{rules}
use Rattle.link_words.proofs.settle_word.Goals as goal

pub returns-then-address-eq-OPEN : goal.returns-then-address-eq-OPEN
returns-then-address-eq-OPEN c = search (rules, word-open)

pub returns : goal.returns
returns c = search (rules, word-written)
