-- `link_blocks::blocks_meet` tests whether two tables of blocks share an address. Assumes nothing.
use Prim.Native.Nat.{◌+◌, ◌-◌}
use Rattle.link_blocks.proofs.Walk.{Left}
use Rattle.link_blocks.proofs.blocks_meet.Given as goal

abbrev pub invariant-loop-i : goal.invariant-loop-i
invariant-loop-i l = Left l.na l.a l.nb l.b l.i l.j

abbrev pub decreases-loop-i : goal.decreases-loop-i
decreases-loop-i l = (l.na - l.i) + (l.nb - l.j)
