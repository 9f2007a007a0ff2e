-- `stored_fields::put_head` meets its contract. Assumes nothing.
use borrow.Author.Rules.{rules}
use native.Mathlib.Omega.{arith}
use lib.ListN.{length-set}
use Rattle.stored_fields.proofs.Bytes.{headed, length-headed}
use Rattle.stored_fields.proofs.put_head.Goals as goal

pub put_number-requires : goal.put_number-requires
put_number-requires c = simp length-set (omega arith)

pub shape_of-out : goal.shape_of-out
shape_of-out c = search (rules, length-headed)

pub returns : goal.returns
returns c = search (rules, headed)
