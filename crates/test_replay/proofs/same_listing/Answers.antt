-- `test_replay::same_listing` meets its contract. Assumes nothing.
use Rattle.test_replay.proofs.Holding.{held_bytes, held-long, held-refused}
use Rattle.test_replay.proofs.same_listing.Goals as goal

pub returns-then-n-text : goal.returns-then-n-text
returns-then-n-text c = held_bytes _ _ _ _ c.in-Ok.is c.if-n-text.true c.same_hex.ensures

pub returns-else-n-text : goal.returns-else-n-text
returns-else-n-text c = held-long _ _ _ _ c.in-Ok.is c.if-n-text.false

pub returns-in-Err : goal.returns-in-Err
returns-in-Err c = held-refused _ _ _ _ c.in-Err.is
