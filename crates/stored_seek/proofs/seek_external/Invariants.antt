-- `stored_seek::seek_external` meets its contract. The loop's invariant: rows below `low` are before the name, rows from `high` on after it. Assumes nothing.
use Prim.Native.Nat.{◌-◌}
use Rattle.stored_seek.proofs.Externals.{Narrowed}
use Rattle.stored_seek.proofs.seek_external.Given as goal

abbrev pub invariant-loop-low : goal.invariant-loop-low
invariant-loop-low l = Narrowed l.bytes l.places l.n l.name l.low l.high

abbrev pub decreases-loop-low : goal.decreases-loop-low
decreases-loop-low l = l.high - l.low
