-- `view_places::line_stop` meets its contract. Assumes nothing.
use borrow.Author.Rules.{rules}
use Rattle.view_places.proofs.LineLaws.{stop-again, stop-here, stop-over}
use Rattle.view_places.proofs.line_stop.Goals as goal

pub returns-then-ends_line : goal.returns-then-ends_line
returns-then-ends_line c = search (rules, stop-here)

pub loop-i-preserved : goal.loop-i-preserved
loop-i-preserved c = search (rules, stop-again)

pub returns : goal.returns
returns c = search (rules, stop-over)
