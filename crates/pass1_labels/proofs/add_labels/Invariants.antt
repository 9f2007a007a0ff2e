-- `pass1_labels::add_labels` meets its contract. Assumes nothing.
use Prim.Native.Nat.{◌-◌}
use lib.ListN.{length}
use Rattle.rules.specs.Base.{span}
use Rattle.pass1_labels.proofs.Adding.{Going}
use Rattle.pass1_labels.proofs.add_labels.Given as goal

abbrev pub invariant-loop-from : goal.invariant-loop-from
invariant-loop-from l = Going l.initial.rows l.src l.rows l.at l.n l.address (span l.start l.end) l.i l.held

abbrev pub decreases-loop-from : goal.decreases-loop-from
decreases-loop-from l = length l.src - l.i
