-- `view_object::label_address` meets its contract. Assumes nothing.
use Rattle.view_object.proofs.Rows.{label-address}
use Rattle.std.proofs.Common.{rules}
use Rattle.view_object.proofs.label_address.Goals as goal

pub returns : goal.returns
returns c = search (rules, label-address)
