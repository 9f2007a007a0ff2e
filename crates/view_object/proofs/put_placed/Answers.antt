-- `view_object::put_placed` meets its contract. Assumes nothing.
use Rattle.view_object.proofs.Lines.{placed-put}
use Rattle.std.proofs.Common.{rules}
use Rattle.view_object.proofs.put_placed.Goals as goal

pub returns : goal.returns
returns c = search (rules, placed-put)
