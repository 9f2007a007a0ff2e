-- `test_support::part_at` meets its contract. Assumes nothing.
use Rattle.test_support.proofs.Reading.{part-dash, part-plain}
use Rattle.test_support.proofs.part_at.Goals as goal

pub returns-then-byte_at-eq45 : goal.returns-then-byte_at-eq45
returns-then-byte_at-eq45 c = part-dash _ _ c.run_end-stop.ensures c.past-next.ensures c.byte_at.ensures c.if-byte_at-eq45.true c.past.ensures

pub returns : goal.returns
returns c = part-plain _ _ c.run_end-stop.ensures c.past-next.ensures c.byte_at.ensures c.if-byte_at-eq45.false
