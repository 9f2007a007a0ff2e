-- `view_object::covers_at` meets its contract. Assumes nothing.
use Rattle.view_object.proofs.Rows.{covers-row}
use Rattle.std.proofs.Common.{rules}
use Rattle.view_object.proofs.covers_at.Goals as goal

pub returns : goal.returns
returns c = search (rules, covers-row)
