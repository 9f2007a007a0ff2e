-- `test_support::number_of` meets its contract. Assumes nothing.
use Rattle.test_support.proofs.Reading.{Counting}
use Rattle.test_support.proofs.number_of.Given as goal

abbrev pub invariant-loop-b : goal.invariant-loop-b
invariant-loop-b l = Counting l.digits l.value l.b-index
