-- `link_labels::lay_labels` meets its contract. Assumes nothing.
use lib.ListN.{length}
use Rattle.object_layout_labels.proofs.Loop.{blank_of, laid-after}
use Rattle.link_labels.proofs.Laying.{ready-after}
use Rattle.link_labels.proofs.lay_labels.Goals as goal

pub lay_rows-requires : goal.lay_rows-requires
lay_rows-requires c = (ready-after c.requires c.clear.ensures c.clear-2.ensures, blank_of (length c.args.labels.now) c.clear.ensures, blank_of (length c.args.names.now) c.clear-2.ensures)

pub returns : goal.returns
returns c = laid-after c.lay_rows.ensures c.clear.ensures c.clear-2.ensures
