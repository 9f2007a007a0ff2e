-- `view_object::put_counted` meets its contract. Assumes nothing.
use Rattle.view_object.proofs.Lines.{counted-put}
use Rattle.std.proofs.Common.{rules}
use Rattle.view_object.proofs.put_counted.Goals as goal

pub returns : goal.returns
returns c = search (rules, counted-put)
