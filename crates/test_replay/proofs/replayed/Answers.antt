-- `test_replay::replayed` meets its contract. Assumes nothing.
use Rattle.test_replay.proofs.Holding.{replays-cut}
use Rattle.test_replay.proofs.replayed.Goals as goal

pub returns : goal.returns
returns c = replays-cut c.args.lacking c.left-b.ensures c.left-w.ensures c.left-m.ensures c.left-l.ensures c.left-r.ensures c.left-n.ensures c.answered.ensures
