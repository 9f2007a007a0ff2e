-- `link_blocks::fill_rows` lays the rows of two tables by start. Assumes nothing.
use Prim.Native.Nat.{◌+◌, ◌-◌}
use Rattle.link_blocks.proofs.Filled.{RowsTo}
use Rattle.link_blocks.proofs.fill_rows.Given as goal

abbrev pub invariant-loop-i : goal.invariant-loop-i
invariant-loop-i l = RowsTo l.na l.a l.nb l.b l.initial.blocks l.blocks l.i l.j

abbrev pub decreases-loop-i : goal.decreases-loop-i
decreases-loop-i l = (l.na + l.nb) - (l.i + l.j)
