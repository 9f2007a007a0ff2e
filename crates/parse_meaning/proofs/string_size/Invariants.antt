-- `parse_meaning::string_size` meets its contract. Assumes nothing.
use Prim.Native.Nat.{◌-◌}
use lib.ListN.{length}
use Rattle.parse_meaning.proofs.Chars.{Counted}
use Rattle.parse_meaning.proofs.string_size.Given as goal

abbrev pub invariant-loop-next : goal.invariant-loop-next
invariant-loop-next l = Counted l.src l.at l.i l.count

abbrev pub decreases-loop-next : goal.decreases-loop-next
decreases-loop-next l = length l.src - l.i
