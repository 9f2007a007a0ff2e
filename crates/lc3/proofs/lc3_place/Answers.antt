-- `lc3::lc3_place` meets its contract. Assumes nothing.
use Rattle.lc3.proofs.Told.{place-put}
use Rattle.lc3.proofs.lc3_place.Goals as goal

pub returns : goal.returns
returns c = place-put c.put_answer.ensures _ _ c.part_of-before.ensures c.line_feeds-lines.ensures c.bytes_since-bytes.ensures.value c.told_place.ensures
