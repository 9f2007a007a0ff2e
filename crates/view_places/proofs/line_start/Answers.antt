-- `view_places::line_start` meets its contract. Assumes nothing.
use borrow.Author.Rules.{rules}
use Rattle.view_places.proofs.LineLaws.{start_is}
use Rattle.view_places.proofs.line_start.Goals as goal

pub returns : goal.returns
returns c = search (rules, start_is)
