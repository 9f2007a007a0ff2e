-- `view_places::line_feeds` meets its contract. Assumes nothing.
use Prim.Native.Nat.{◌+◌, ◌≤◌}
use mathlib.Core.Path.{◌≡◌}
use Rattle.base_text.specs.Runs.{from}
use Rattle.view_places.specs.Lines.{feeds}
use Rattle.view_places.proofs.line_feeds.Given as goal

abbrev pub invariant-loop-b : goal.invariant-loop-b
invariant-loop-b l = (l.n + feeds (from l.before l.b-index) ≡ feeds l.before) × (l.n ≤ l.b-index)
