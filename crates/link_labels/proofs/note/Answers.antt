-- `link_labels::note` meets its contract. Assumes nothing.
use Rattle.link_labels.proofs.note.Goals as goal

pub returns : goal.returns
returns c = cc
