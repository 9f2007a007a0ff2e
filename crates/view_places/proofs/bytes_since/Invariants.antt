-- `view_places::bytes_since` meets its contract. Assumes nothing.
use Prim.Native.Nat.{◌≤◌}
use mathlib.Core.Path.{◌≡◌}
use Rattle.base_text.specs.Runs.{from}
use Rattle.view_places.specs.Lines.{since_from, since}
use Rattle.view_places.proofs.bytes_since.Given as goal

abbrev pub invariant-loop-b : goal.invariant-loop-b
invariant-loop-b l = (since_from l.k (from l.before l.b-index) ≡ since l.before) × (l.k ≤ l.b-index)
