-- `object_names::capital_part` meets its contract. Assumes nothing.
use Rattle.object_names.proofs.Plain.{FoundTo}
use Rattle.object_names.proofs.capital_part.Given as goal

abbrev pub invariant-loop-b : goal.invariant-loop-b
invariant-loop-b l = FoundTo l.part l.good l.b-index
