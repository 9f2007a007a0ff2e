-- `test_replay::expected_at` meets its contract. Assumes nothing.
use Rattle.test_replay.proofs.Asking.{expected-is}
use Rattle.test_replay.proofs.expected_at.Goals as goal

pub returns : goal.returns
returns c = expected-is _ _ c.decimal-a.result c.decimal-b.result c.decimal-c.result c.decimal-d.result c.decimal-e.result c.decimal-f.result c.decimal-g.result c.decimal-h.result c.decimal-i.result c.decimal-a.ensures c.decimal-b.ensures c.decimal-c.ensures c.decimal-d.ensures c.decimal-e.ensures c.decimal-f.ensures c.decimal-g.ensures c.decimal-h.ensures c.decimal-i.ensures c.low16.ensures
