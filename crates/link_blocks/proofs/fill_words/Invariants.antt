-- `link_blocks::fill_words` lays the words of two tables of blocks by start. Assumes nothing.
use Prim.Native.Nat.{◌+◌, ◌-◌}
use Rattle.link_blocks.proofs.Filled.{PartsTo}
use Rattle.link_blocks.proofs.fill_words.Given as goal

abbrev pub invariant-loop-i : goal.invariant-loop-i
invariant-loop-i l = PartsTo l.na l.a l.a_words l.nb l.b l.b_words l.initial.words l.words l.i l.j l.p l.q

abbrev pub decreases-loop-i : goal.decreases-loop-i
decreases-loop-i l = (l.na + l.nb) - (l.i + l.j)
