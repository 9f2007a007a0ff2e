-- `view_far::find` meets its contract: what is found from here on is what is found in all. Assumes nothing.
use Prim.Native.Nat.{◌-◌}
use lib.ListN.{length}
use Rattle.view_far.specs.Seeking.{tested}
use Rattle.view_far.proofs.Finding.{Going}
use Rattle.view_far.proofs.find.Given as goal

abbrev pub invariant-loop-st : goal.invariant-loop-st
invariant-loop-st l = Going l.src (tested l.src l.sought) l.at l.address

abbrev pub decreases-loop-st : goal.decreases-loop-st
decreases-loop-st l = length l.src - l.at
