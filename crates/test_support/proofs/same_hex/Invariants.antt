-- `test_support::same_hex` meets its contract. Assumes nothing.
use Rattle.test_support.proofs.Reading.{Alike}
use Rattle.test_support.proofs.same_hex.Given as goal

abbrev pub invariant-loop-i : goal.invariant-loop-i
invariant-loop-i l = Alike l.text l.digits l.i
