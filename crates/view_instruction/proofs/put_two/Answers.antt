-- `view_instruction::put_two` meets its contract. Assumes nothing.
use Rattle.view_instruction.proofs.Puts.{two-put}
use borrow.Author.Rules.{rules}
use Rattle.view_instruction.proofs.put_two.Goals as goal

pub returns : goal.returns
returns c = search (rules, two-put)
