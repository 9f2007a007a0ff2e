-- `view_far::has_label` meets its contract: the labels from here on have the name where those from the place have it. Assumes nothing.
use Prim.Native.Nat.{◌-◌}
use mathlib.Core.Path.{◌≡◌}
use lib.ListN.{length}
use Rattle.rules.specs.Statements.{labels_at}
use Rattle.view_far.specs.Far.{named}
use Rattle.view_far.specs.Seeking.{name_at}
use Rattle.view_far.proofs.has_label.Given as goal

abbrev pub invariant-loop-from : goal.invariant-loop-from
invariant-loop-from l = named (name_at l.src l.start l.end) (labels_at l.src l.i) ≡ named (name_at l.src l.start l.end) (labels_at l.src l.at)

abbrev pub decreases-loop-from : goal.decreases-loop-from
decreases-loop-from l = length l.src - l.i
