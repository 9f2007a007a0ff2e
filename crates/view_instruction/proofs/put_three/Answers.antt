-- `view_instruction::put_three` meets its contract. Assumes nothing.
use Rattle.view_instruction.proofs.Puts.{three-put}
use borrow.Author.Rules.{rules}
use Rattle.view_instruction.proofs.put_three.Goals as goal

pub returns : goal.returns
returns c = search (rules, three-put)
