-- `stored_write_blocks::all_alike` meets its contract. Assumes nothing.
use Rattle.object.specs.Decides.{Decides}
use Rattle.stored_write_blocks.specs.Runs.{Alike}
use Rattle.stored_write_blocks.proofs.all_alike.Given as goal

abbrev pub invariant-loop-x : goal.invariant-loop-x
invariant-loop-x l = Decides (Alike l.mark l.marks l.x-index) l.alike
