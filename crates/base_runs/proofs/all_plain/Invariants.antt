-- `base_runs::all_plain` meets its contract. Assumes nothing.
use Prim.Native.Nat.{◌-◌}
use mathlib.Core.Bool.{◌&&◌}
use lib.ListN.{length}
use Rattle.base_text.specs.declared.Class.TheVariants.{Plain}
use Rattle.base_runs.proofs.Steps.{Looked}
use Rattle.base_runs.proofs.all_plain.Given as goal

abbrev pub invariant-loop-b : goal.invariant-loop-b
invariant-loop-b l = Looked Plain l.s (l.no_quote && l.no_backslash && l.no_feed && l.no_return) l.b-index
