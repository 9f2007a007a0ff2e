-- `stored_load::load_fields` meets its contract. Assumes nothing.
use Rattle.stored_load.proofs.Answering.{settled}
use Rattle.stored_load.proofs.load_fields.Goals as goal

pub returns : goal.returns
returns c = settled c.requires c.lent_words-room.ensures c.read_fields-filled.ensures c.settle.ensures
