-- `stored_check::check_fields` meets its contract. The loop's invariant: the walk tells what was read. Assumes nothing.
use Prim.Native.Nat.{◌-◌}
use lib.ListN.{length}
use Rattle.stored_check.proofs.Turns.{Turning}
use Rattle.stored_check.proofs.check_fields.Given as goal

abbrev pub invariant-loop-next : goal.invariant-loop-next
invariant-loop-next l = Turning l.bytes l.initial.places l.places l.w

abbrev pub decreases-loop-next : goal.decreases-loop-next
decreases-loop-next l = length l.bytes - l.w.at
