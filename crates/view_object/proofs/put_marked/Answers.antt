-- `view_object::put_marked` meets its contract. Assumes nothing.
use Rattle.view_object.proofs.Lines.{marked-waiting, marked-set}
use Rattle.std.proofs.Common.{rules}
use Rattle.view_object.proofs.put_marked.Goals as goal

pub returns-then-row-c : goal.returns-then-row-c
returns-then-row-c c = search (rules, marked-waiting)

pub returns : goal.returns
returns c = search (rules, marked-set)
