-- `view_instruction::put_instr` meets its contract. Assumes nothing.
use Rattle.view_instruction.proofs.Puts.{instr-put}
use borrow.Author.Rules.{rules}
use Rattle.view_instruction.proofs.put_instr.Goals as goal

pub returns : goal.returns
returns c = search (rules, instr-put)
