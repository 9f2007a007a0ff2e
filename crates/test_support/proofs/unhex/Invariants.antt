-- `test_support::unhex` meets its contract. Assumes nothing.
use Rattle.test_support.proofs.Writing.{Unhexing}
use Rattle.test_support.proofs.unhex.Given as goal

abbrev pub invariant-loop-two : goal.invariant-loop-two
invariant-loop-two l = Unhexing l.digits l.initial.out l.out l.at l.end l.two-iterator.rest.now l.two-iterator.size
