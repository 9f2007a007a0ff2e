-- `view_instruction::put_reg` meets its contract. Assumes nothing.
use Rattle.view_instruction.proofs.Puts.{reg-put}
use borrow.Author.Rules.{rules}
use Rattle.view_instruction.proofs.put_reg.Goals as goal

pub returns : goal.returns
returns c = search (rules, reg-put)
