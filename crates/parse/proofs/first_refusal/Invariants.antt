-- `parse::first_refusal` meets its contract. Assumes nothing.
use Rattle.std.proofs.Common.{◌-◌, length}
use Rattle.parse.proofs.All.{Rest}
use Rattle.parse.proofs.first_refusal.Given as goal

abbrev pub invariant-loop-statement : goal.invariant-loop-statement
invariant-loop-statement l = Rest l.src l.at

abbrev pub decreases-loop-statement : goal.decreases-loop-statement
decreases-loop-statement l = length l.src - l.at
