-- `view_object::place_of` meets its contract. Assumes nothing.
use Rattle.view_object.proofs.Rows.{Placing}
use Rattle.view_object.proofs.place_of.Given as goal

abbrev pub invariant-loop-k : goal.invariant-loop-k
invariant-loop-k l = Placing l.blocks l.n l.i l.k l.left
