-- `object_check_blocks::check_blocks` meets its contract. Assumes nothing.
use borrow.Author.Rules.{rules}
use Rattle.object_check_blocks.proofs.Blocks.{all-told}
use Rattle.object_check_blocks.proofs.check_blocks.Goals as goal

pub returns : goal.returns
returns c = search (rules, all-told)
