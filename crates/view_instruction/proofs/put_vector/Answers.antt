-- `view_instruction::put_vector` meets its contract. Assumes nothing.
use Rattle.view_instruction.proofs.Puts.{vector-put}
use borrow.Author.Rules.{rules}
use Rattle.view_instruction.proofs.put_vector.Goals as goal

pub returns : goal.returns
returns c = search (rules, vector-put)
