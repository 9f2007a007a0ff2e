-- `pass2_blocks::ranges_overlap` tests whether two blocks share an address. Assumes nothing.
use borrow.Author.Rules.{rules}
use Rattle.pass2_blocks.proofs.Passing.{overlapped}
use Rattle.pass2_blocks.proofs.ranges_overlap.Goals as goal

pub returns : goal.returns
returns c = search (rules, overlapped)
