-- `link_words::ends_before` tests whether a block ends before a relocation. Assumes nothing.
use Rattle.link_words.proofs.Settling.{tells-end}
use borrow.Author.Rules.{rules}
use Rattle.link_words.proofs.ends_before.Goals as goal

pub returns : goal.returns
returns c = search (rules, tells-end)
