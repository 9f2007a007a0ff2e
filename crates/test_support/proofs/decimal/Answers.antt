-- `test_support::decimal` meets its contract. Assumes nothing.
use Rattle.test_support.proofs.Reading.{decimal-is}
use Rattle.test_support.proofs.decimal.Goals as goal

pub returns : goal.returns
returns c = decimal-is _ _ c.run_end-stop.ensures c.between.ensures c.number_of.ensures c.past.ensures
