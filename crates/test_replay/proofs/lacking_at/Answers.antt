-- `test_replay::lacking_at` meets its contract. Assumes nothing.
use Rattle.test_replay.proofs.Asking.{lacking-is}
use Rattle.test_replay.proofs.lacking_at.Goals as goal

pub returns : goal.returns
returns c = lacking-is _ _ c.decimal-a.result c.decimal-b.result c.decimal-c.result c.decimal-d.result c.decimal-e.result c.decimal-f.result c.decimal-a.ensures c.decimal-b.ensures c.decimal-c.ensures c.decimal-d.ensures c.decimal-e.ensures c.decimal-f.ensures
