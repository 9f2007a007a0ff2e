-- `pass1::pass_one` meets its contract. Assumes nothing.
use Prim.Native.Nat.{◌-◌}
use lib.ListN.{length}
use Rattle.pass1.proofs.Loop.{Going}
use Rattle.pass1.proofs.pass_one.Given as goal

abbrev pub invariant-loop-st : goal.invariant-loop-st
invariant-loop-st l = Going l.initial.labels l.initial.relocations l.labels l.relocations l.src l.at l.o

abbrev pub decreases-loop-st : goal.decreases-loop-st
decreases-loop-st l = length l.src - l.at
