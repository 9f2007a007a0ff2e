-- `view_instruction::put_number` meets its contract. Assumes nothing.
use Rattle.view_instruction.proofs.Puts.{number_put}
use borrow.Author.Rules.{rules}
use Rattle.view_instruction.proofs.put_number.Goals as goal

pub returns : goal.returns
returns c = search (rules, number_put)
