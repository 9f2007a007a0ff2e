-- `stored_fields::put_number` meets its contract. Assumes nothing.
use borrow.Author.Rules.{rules}
use native.Mathlib.Omega.{arith}
use lib.ListN.{length-set}
use Rattle.stored_fields.proofs.Bytes.{two_bytes}
use Rattle.stored_fields.proofs.put_number.Goals as goal

pub bounds-out-next : goal.bounds-out-next
bounds-out-next c = simp length-set (omega arith)

pub returns : goal.returns
returns c = search (rules, two_bytes)
