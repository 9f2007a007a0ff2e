-- `link_blocks::fill_marks` lays the marks of two tables of blocks by start. Assumes nothing.
use Prim.Native.Nat.{◌+◌, ◌-◌}
use Rattle.link_blocks.proofs.Filled.{PartsTo}
use Rattle.link_blocks.proofs.fill_marks.Given as goal

abbrev pub invariant-loop-i : goal.invariant-loop-i
invariant-loop-i l = PartsTo l.na l.a l.a_marks l.nb l.b l.b_marks l.initial.marks l.marks l.i l.j l.p l.q

abbrev pub decreases-loop-i : goal.decreases-loop-i
decreases-loop-i l = (l.na + l.nb) - (l.i + l.j)
