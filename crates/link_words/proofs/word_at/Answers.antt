-- `link_words::word_at` gives the place of a relocation's word. Assumes nothing.
use Rattle.link_words.proofs.Settling.{tells-place}
use borrow.Author.Rules.{rules}
use Rattle.link_words.proofs.word_at.Goals as goal

pub returns : goal.returns
returns c = search (rules, tells-place)
