-- `object_layout::clear` meets its contract. Assumes nothing.
use Rattle.object_layout.proofs.Whole.{cleared}
use borrow.Author.Rules.{rules}
use Rattle.object_layout.proofs.clear.Goals as goal

pub returns : goal.returns
returns c = search (rules, cleared)
