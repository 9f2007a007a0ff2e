-- `object_check_relocations::check_relocations` meets its contract. Assumes nothing.
use Rattle.object_check_relocations.proofs.Rows.{RelocsTo}
use Rattle.object_check_relocations.proofs.check_relocations.Given as goal

abbrev pub invariant-loop-k : goal.invariant-loop-k
invariant-loop-k l = RelocsTo l.n l.nb l.w l.m l.blocks l.words l.marks l.labels l.relocations l.k
