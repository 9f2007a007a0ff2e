-- `lc3::lc3_rev_lookup_label` meets its contract. Assumes nothing.
use Rattle.lc3.proofs.Told.{row-in, rev-lookup-put}
use Rattle.lc3.proofs.lc3_rev_lookup_label.Goals as goal

pub told_found-requires : goal.told_found-requires
told_found-requires c = row-in c.rev_lookup_label-found.result c.rev_lookup_label-found.ensures

pub returns : goal.returns
returns c = rev-lookup-put c.put_answer.ensures c.rev_lookup_label-found.ensures c.told_found.ensures
