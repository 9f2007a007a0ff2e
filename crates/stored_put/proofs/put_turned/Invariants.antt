-- `stored_put::put_turned` meets its contract. Assumes nothing.
use Rattle.stored_put.proofs.Words.{Copying}
use Rattle.stored_put.proofs.put_turned.Given as goal

abbrev pub invariant-loop-i : goal.invariant-loop-i
invariant-loop-i l = Copying l.bytes l.start l.word-items l.i
