-- `stored_load::put_fitting` meets its contract. Assumes nothing.
use native.Mathlib.Omega.{arith}
use Rattle.stored_load.proofs.Going.{fitting-met, fitting-put, fitting-not}
use borrow.Author.Rules.{rules}
use Rattle.stored_load.proofs.put_fitting.Goals as goal

pub put_field-requires : goal.put_field-requires
put_field-requires c = fitting-met c.requires (omega (arith, c.if-next-room.true))

pub returns-then-next-room : goal.returns-then-next-room
returns-then-next-room c = search (rules, fitting-put)

pub returns-else-next-room : goal.returns-else-next-room
returns-else-next-room c = fitting-not (omega (arith, c.if-next-room.false))
