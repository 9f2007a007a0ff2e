-- `test_replay::listed_right` meets its contract. Assumes nothing.
use Prim.Native.Nat.{ℕ}
use lib.ListN.{length-replicate}
use Rattle.test_replay.proofs.Holding.{listed-is}
use Rattle.test_replay.proofs.listed_right.Goals as goal

pub returns : goal.returns
returns c = listed-is _ _ (length-replicate {A = ℕ} 399 0) c.list-listed.ensures c.same_listing.ensures
