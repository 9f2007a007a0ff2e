-- `base_text::run_end` meets its contract. Assumes nothing.
use Rattle.std.proofs.Common.{◌≡◌}
use Rattle.base_text.specs.Runs.{run_end}
use Rattle.base_text.proofs.run_end.Given as goal

abbrev pub invariant-loop-i : goal.invariant-loop-i
invariant-loop-i l = run_end l.class l.src l.i ≡ run_end l.class l.src l.at
