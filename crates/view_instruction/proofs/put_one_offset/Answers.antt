-- `view_instruction::put_one_offset` meets its contract. Assumes nothing.
use Rattle.view_instruction.proofs.Puts.{two-put, offset-put}
use borrow.Author.Rules.{rules}
use Rattle.view_instruction.proofs.put_one_offset.Goals as goal

pub returns : goal.returns
returns c = search (rules, two-put, offset-put)
