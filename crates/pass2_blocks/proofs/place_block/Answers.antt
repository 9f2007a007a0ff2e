-- `pass2_blocks::place_block` places a block as the rules do. Assumes nothing.
use borrow.Author.Rules.{rules}
use Rattle.pass2_blocks.proofs.Answers.{spot-clashes, spot-free, spot-places}
use Rattle.pass2_blocks.proofs.place_block.Goals as goal

pub insert_block-requires : goal.insert_block-requires
insert_block-requires c = search (rules, spot-free)

pub returns-in-Err : goal.returns-in-Err
returns-in-Err c = search (rules, spot-clashes)

pub returns-in-Ok : goal.returns-in-Ok
returns-in-Ok c = search (rules, spot-places)
