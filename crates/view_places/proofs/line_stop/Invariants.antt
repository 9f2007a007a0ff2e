-- `view_places::line_stop` meets its contract. Assumes nothing.
use mathlib.Core.Path.{◌≡◌}
use Rattle.view_places.specs.Lines.{line_stop}
use Rattle.view_places.proofs.line_stop.Given as goal

abbrev pub invariant-loop-i : goal.invariant-loop-i
invariant-loop-i l = line_stop l.src l.i ≡ line_stop l.src l.first
