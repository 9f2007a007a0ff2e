-- `view_places::one_on` meets its contract. Assumes nothing.
use Rattle.view_places.proofs.LineLaws.{moved-ten, moved_other}
use Rattle.view_places.proofs.one_on.Goals as goal

pub returns-then-b-eq10 : goal.returns-then-b-eq10
returns-then-b-eq10 c = moved-ten _ _ c.if-b-eq10.true

pub returns : goal.returns
returns c = moved_other _ _ c.if-b-eq10.false
