-- `link_relocations::count_open` meets its contract. Assumes nothing.
use Prim.Native.Nat.{◌-◌}
use Rattle.link_relocations.proofs.Counting.{Counting}
use Rattle.link_relocations.proofs.count_open.Given as goal

abbrev pub invariant-loop-k : goal.invariant-loop-k
invariant-loop-k l = Counting l.n l.relocations l.notes l.count l.k
