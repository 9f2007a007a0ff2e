-- `view_places::feed_of` meets its contract. Assumes nothing.
use Rattle.view_places.proofs.LineLaws.{feed-ten, feed-other}
use Rattle.view_places.proofs.feed_of.Goals as goal

pub returns-then-b-eq10 : goal.returns-then-b-eq10
returns-then-b-eq10 c = feed-ten _ c.if-b-eq10.true

pub returns : goal.returns
returns c = feed-other _ c.if-b-eq10.false
