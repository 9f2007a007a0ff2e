-- `object_lookup::first_at` meets its contract. Assumes nothing.
use Rattle.object_lookup.proofs.Rows.{Passed}
use Rattle.object_lookup.proofs.first_at.Given as goal

abbrev pub invariant-loop-k : goal.invariant-loop-k
invariant-loop-k l = Passed l.n l.labels l.address l.k
