-- `asm_second_half::write_blocks` meets its contract. Assumes nothing.
use borrow.Author.Rules.{rules}
use Rattle.asm_second_half.proofs.Making.{roomy-passing, cleared-again}
use Rattle.asm_second_half.proofs.write_blocks.Goals as goal

pub pass_two-requires : goal.pass_two-requires
pass_two-requires c = search (rules, roomy-passing, cleared-again)
