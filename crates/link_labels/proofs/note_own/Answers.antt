-- `link_labels::note_own` meets its contract. Assumes nothing.
use Rattle.link_labels.proofs.note_own.Goals as goal

pub returns : goal.returns
returns c = cc
