-- `test_support::repeat_hex` meets its contract. Assumes nothing.
use Rattle.test_support.specs.Sources.{unhexed}
use Rattle.test_support.proofs.Writing.{Repeating}
use Rattle.test_support.proofs.repeat_hex.Given as goal

abbrev pub invariant-loop : goal.invariant-loop
invariant-loop l = Repeating l.count (unhexed l.digits) l.initial.out l.out l.at l.end l.counter
