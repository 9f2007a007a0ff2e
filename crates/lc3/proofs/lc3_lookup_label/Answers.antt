-- `lc3::lc3_lookup_label` meets its contract. Assumes nothing.
use Rattle.lc3.proofs.Told.{lookup-put}
use Rattle.lc3.proofs.lc3_lookup_label.Goals as goal

pub returns : goal.returns
returns c = lookup-put c.put_answer.ensures c.lookup_label-said.result c.lookup_label-said.ensures c.told_said.ensures
