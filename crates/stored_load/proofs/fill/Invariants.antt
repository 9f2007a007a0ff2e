-- `stored_load::fill` meets its contract: a law for each way through the loop's body. Assumes nothing.
use Prim.Native.Nat.{◌-◌}
use lib.ListN.{length}
use Rattle.rules.specs.Buffers.{six}
use Rattle.stored_load.proofs.Going.{Filling}
use Rattle.stored_load.proofs.fill.Given as goal

abbrev pub invariant-loop-next : goal.invariant-loop-next
invariant-loop-next l = Filling l.bytes l.initial.places l.places l.room (six l.initial.blocks l.initial.words l.initial.marks l.initial.labels l.initial.relocations l.initial.names) (six l.blocks l.words l.marks l.labels l.relocations l.names) l.w

abbrev pub decreases-loop-next : goal.decreases-loop-next
decreases-loop-next l = length l.bytes - l.w.at
