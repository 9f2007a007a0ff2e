-- `view_instruction::put_signed` meets its contract. Assumes nothing.
use Rattle.view_instruction.proofs.Puts.{plus-put, minus-put}
use borrow.Author.Rules.{rules}
use Rattle.view_instruction.proofs.put_signed.Goals as goal

pub returns-then-d-lt-SIGN : goal.returns-then-d-lt-SIGN
returns-then-d-lt-SIGN c = search (rules, plus-put)

pub returns : goal.returns
returns c = search (rules, minus-put)
