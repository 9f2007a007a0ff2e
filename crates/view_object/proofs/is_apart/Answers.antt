-- `view_object::is_apart` meets its contract. Assumes nothing.
use Rattle.view_object.proofs.Rows.{apart-defined, apart-external}
use Rattle.std.proofs.Common.{rules}
use Rattle.view_object.proofs.is_apart.Goals as goal

pub returns-then-is_defined : goal.returns-then-is_defined
returns-then-is_defined c = search (rules, apart-defined)

pub returns : goal.returns
returns c = search (rules, apart-external)
