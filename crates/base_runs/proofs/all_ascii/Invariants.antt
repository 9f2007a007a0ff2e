-- `base_runs::all_ascii` meets its contract. Assumes nothing.
use Prim.Native.Nat.{◌-◌}
use lib.ListN.{length}
use Rattle.base_text.specs.declared.Class.TheVariants.{Ascii}
use Rattle.base_runs.proofs.Steps.{Looked}
use Rattle.base_runs.proofs.all_ascii.Given as goal

abbrev pub invariant-loop-b : goal.invariant-loop-b
invariant-loop-b l = Looked Ascii l.s l.all l.b-index
