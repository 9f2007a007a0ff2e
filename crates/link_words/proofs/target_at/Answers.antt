-- `link_words::target_at` reads the note of a relocation's label. Assumes nothing.
use Rattle.link_words.proofs.Settling.{target_is}
use borrow.Author.Rules.{rules}
use Rattle.link_words.proofs.target_at.Goals as goal

pub returns : goal.returns
returns c = search (rules, target_is)
