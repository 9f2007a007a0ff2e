-- `view_object::put_external` meets its contract. Assumes nothing.
use Rattle.view_object.proofs.Lines.{external-put}
use Rattle.std.proofs.Common.{rules}
use Rattle.view_object.proofs.put_external.Goals as goal

pub returns : goal.returns
returns c = search (rules, external-put)
