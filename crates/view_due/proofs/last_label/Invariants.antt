-- `view_due::last_label` meets its contract. Assumes nothing.
use Prim.Native.Nat.{◌-◌}
use mathlib.Core.Path.{◌≡◌}
use Rattle.rules.specs.Base.{span, nowhere}
use Rattle.rules.specs.Statements.{labels_at}
use Rattle.view_due.specs.Wanted.{last_place}
use lib.ListN.{length}
use Rattle.view_due.proofs.last_label.Given as goal

abbrev pub invariant-loop-from : goal.invariant-loop-from
invariant-loop-from l = last_place (span l.start l.end) (labels_at l.src l.i) ≡ last_place nowhere (labels_at l.src l.at)

abbrev pub decreases-loop-from : goal.decreases-loop-from
decreases-loop-from l = length l.src - l.i
