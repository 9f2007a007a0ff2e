-- `view_far::put_far` meets its contract. Assumes nothing.
use Rattle.view_far.proofs.FarTexts.{note-between, note-small, note-put, note-none}
use Rattle.view_far.proofs.put_far.Goals as goal

pub put_from-requires : goal.put_from-requires
put_from-requires c = (note-between _ _ _ c.where_is.ensures _ _ c.in-Some.is, note-small _ _ _ c.where_is.ensures _ _ c.in-Some.is)

pub returns-in-Some : goal.returns-in-Some
returns-in-Some c = note-put _ _ _ c.where_is.ensures _ _ c.in-Some.is c.put_from.ensures

pub returns-in-None : goal.returns-in-None
returns-in-None c = note-none _ _ _ c.where_is.ensures _ _ c.in-None.is
