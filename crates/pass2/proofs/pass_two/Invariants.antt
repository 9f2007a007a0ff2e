-- `pass2::pass_two` meets its contract. Assumes nothing.
use Prim.Native.Nat.{◌-◌}
use lib.ListN.{length}
use Rattle.pass2.proofs.Loop.{Going}
use Rattle.pass2.proofs.pass_two.Given as goal

abbrev pub invariant-loop-st : goal.invariant-loop-st
invariant-loop-st l = Going l.rows l.src l.n l.initial.blocks l.initial.origs l.initial.words l.initial.marks l.blocks l.origs l.words l.marks l.at l.t

abbrev pub decreases-loop-st : goal.decreases-loop-st
decreases-loop-st l = length l.src - l.at
