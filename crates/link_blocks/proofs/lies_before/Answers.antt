-- `link_blocks::lies_before` tests whether a block ends before another starts. Assumes nothing.
use Rattle.link_blocks.proofs.Walk.{tells-before}
use borrow.Author.Rules.{rules}
use Rattle.link_blocks.proofs.lies_before.Goals as goal

pub returns : goal.returns
returns c = search (rules, tells-before)
