-- `link_labels::lay_rows` meets its contract. Assumes nothing.
use Prim.Native.Nat.{◌+◌, ◌-◌}
use Rattle.link_labels.proofs.Laying.{Laying}
use Rattle.link_labels.proofs.lay_rows.Given as goal

abbrev pub invariant-loop-labels : goal.invariant-loop-labels
invariant-loop-labels l = Laying l.m l.labels1 l.names1 l.n l.labels2 l.names2 l.initial.labels l.initial.names l.labels l.names l.i l.j l.k l.at

abbrev pub decreases-loop-labels : goal.decreases-loop-labels
decreases-loop-labels l = l.m - l.i + (l.n - l.j)
