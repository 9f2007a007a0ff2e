-- `view_object::put_address` meets its contract. Assumes nothing.
use Rattle.view_object.proofs.Lines.{address-put}
use Rattle.std.proofs.Common.{rules}
use Rattle.view_object.proofs.put_address.Goals as goal

pub returns : goal.returns
returns c = search (rules, address-put)
