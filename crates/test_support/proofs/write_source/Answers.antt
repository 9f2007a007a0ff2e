-- `test_support::write_source` meets its contract. Assumes nothing.
use Rattle.test_support.proofs.Writing.{source-wrote}
use Rattle.test_support.proofs.write_source.Goals as goal

pub returns : goal.returns
returns c = source-wrote _ _ c.part_at-head.result c.part_at-unit.result c.decimal-count.result c.part_at-tail.result c.part_at-head.ensures c.part_at-unit.ensures c.decimal-count.ensures c.part_at-tail.ensures c.digits_of.ensures c.digits_of-2.ensures c.digits_of-3.ensures c.unhex-one.ensures c.repeat_hex-two.ensures c.unhex-three.ensures
