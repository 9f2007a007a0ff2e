-- `link_relocations::merge_rows` meets its contract. Assumes nothing.
use Prim.Native.Nat.{◌+◌, ◌-◌}
use Rattle.link_relocations.proofs.Merging.{Merging}
use Rattle.link_relocations.proofs.merge_rows.Given as goal

abbrev pub invariant-loop-i : goal.invariant-loop-i
invariant-loop-i l = Merging l.n l.a l.a_notes l.m l.b l.b_notes l.initial.out l.out l.i l.j l.k

abbrev pub decreases-loop-i : goal.decreases-loop-i
decreases-loop-i l = l.n + l.m - (l.i + l.j)
