-- `view_object::put_apart` meets its contract. Assumes nothing.
use Rattle.view_object.proofs.Lines.{apart-bare-put, apart-external-put}
use Rattle.std.proofs.Common.{rules}
use Rattle.view_object.proofs.put_apart.Goals as goal

pub returns-then-is_defined : goal.returns-then-is_defined
returns-then-is_defined c = search (rules, apart-bare-put)

pub returns : goal.returns
returns c = search (rules, apart-external-put)
