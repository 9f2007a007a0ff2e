-- `stored_put_labels::put_from` meets its contract: a law for each way through the loop. Assumes nothing.
use Rattle.stored_put_labels.proofs.Rows.{Putting}
use Rattle.stored_put_labels.proofs.put_from.Given as goal

abbrev pub invariant-loop-k : goal.invariant-loop-k
invariant-loop-k l = Putting l.bytes l.initial.places l.places l.w l.room l.last l.at l.k l.named l.initial.labels l.initial.names l.labels l.names
