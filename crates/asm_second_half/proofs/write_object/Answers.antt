-- `asm_second_half::write_object` meets its contract. Assumes nothing.
use Rattle.asm_second_half.proofs.Making.{roomy, rooms, made-whole, made_none}
use borrow.Author.Rules.{rules}
use Rattle.asm_second_half.proofs.write_object.Goals as goal

pub write_blocks-answer-requires : goal.write_blocks-answer-requires
write_blocks-answer-requires c = roomy _ _ _ _ c.requires.0 _ _ _ _ _ _ c.requires.2 c.requires.1

pub lay_tables-requires : goal.lay_tables-requires
lay_tables-requires c = rooms _ _ _ _ c.requires.0 _ _ _ _ _ _ c.requires.2

pub returns-in-Ok : goal.returns-in-Ok
returns-in-Ok c = made-whole _ _ _ _ c.requires.0 _ _ _ _ _ _ c.requires.2 _ _ _ (search rules) (search rules) (search rules) _ c.write_blocks-answer.ensures _ c.in-Ok.is _ _ _ c.lay_tables.ensures.laid_labels c.lay_tables.ensures.relocations_after

pub returns-in-Err : goal.returns-in-Err
returns-in-Err c = made_none _ _ _ _ c.requires.0 _ _ _ _ _ _ c.requires.2 _ _ _ (search rules) (search rules) (search rules) _ c.write_blocks-answer.ensures _ c.in-Err.is _ c.clear.ensures
