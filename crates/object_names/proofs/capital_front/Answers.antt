-- `object_names::capital_front` meets its contract. Assumes nothing.
use native.Mathlib.Omega.{arith}
use Rattle.object_names.proofs.Plain.{front-more}
use Rattle.object_names.proofs.capital_front.Goals as goal

pub loop-i-preserved : goal.loop-i-preserved
loop-i-preserved c = front-more c.loop-i.invariant c.capital_part.ensures c.if-capital_part.true (omega arith) (omega arith)
