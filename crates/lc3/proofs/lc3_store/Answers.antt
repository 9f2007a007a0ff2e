-- `lc3::lc3_store` meets its contract. Assumes nothing.
use Rattle.lc3.proofs.Told.{write-put}
use Rattle.lc3.proofs.lc3_store.Goals as goal

pub returns : goal.returns
returns c = write-put c.put_answer.ensures c.store-stored.ensures c.told_written.ensures
