-- `link_labels::match_labels` meets its contract. Assumes nothing.
use Prim.Native.Nat.{◌+◌, ◌-◌}
use Rattle.link_labels.proofs.Matching.{Matching}
use Rattle.link_labels.proofs.match_labels.Given as goal

abbrev pub invariant-loop-notes1 : goal.invariant-loop-notes1
invariant-loop-notes1 l = Matching l.m l.labels1 l.names1 l.n l.labels2 l.names2 l.initial.notes1 l.initial.notes2 l.notes1 l.notes2 l.i l.j l.k

abbrev pub decreases-loop-notes1 : goal.decreases-loop-notes1
decreases-loop-notes1 l = l.m - l.i + (l.n - l.j)
