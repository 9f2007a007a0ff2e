-- `lex_literals::scan_string` meets its contract. Assumes nothing.
use Prim.Native.Nat.{◌-◌}
use lib.ListN.{length}
use Rattle.lex_literals.proofs.Scanning.{Scanning}
use Rattle.lex_literals.proofs.scan_string.Given as goal

abbrev pub invariant-loop-end : goal.invariant-loop-end
invariant-loop-end l = Scanning l.src l.at l.count l.i

abbrev pub decreases-loop-end : goal.decreases-loop-end
decreases-loop-end l = length l.src - l.i
