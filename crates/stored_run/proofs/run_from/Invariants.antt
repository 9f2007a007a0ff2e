-- `stored_run::run_from` meets its contract: a law for each way through the loop. Assumes nothing.
use Rattle.stored_run.proofs.Running.{Running}
use Rattle.stored_run.proofs.run_from.Given as goal

abbrev pub invariant-loop-k : goal.invariant-loop-k
invariant-loop-k l = Running l.bytes l.initial.places l.places l.w l.last l.at l.k l.named
