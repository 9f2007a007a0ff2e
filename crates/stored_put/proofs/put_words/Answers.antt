-- `stored_put::put_words` meets its contract. Assumes nothing.
use native.Mathlib.Omega.{arith}
use Rattle.stored_put.proofs.Words.{words-put}
use Rattle.stored_put.proofs.put_words.Goals as goal

pub returns : goal.returns
returns c = words-put c.requires c.put_turned.ensures c.turn.ensures c.put_marks.ensures (λ i. omega (arith, c.type_inv.bytes i))
