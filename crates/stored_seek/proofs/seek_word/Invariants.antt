-- `stored_seek::seek_word` meets its contract. The loop's invariant: the search may go on where it stands. Assumes nothing.
use Prim.Native.Nat.{◌-◌}
use Rattle.stored_seek.proofs.Words.{Searching}
use Rattle.stored_seek.proofs.seek_word.Given as goal

abbrev pub invariant-loop-at : goal.invariant-loop-at
invariant-loop-at l = Searching l.bytes l.end l.seen l.address l.wanted l.at l.here

abbrev pub decreases-loop-at : goal.decreases-loop-at
decreases-loop-at l = l.end - l.at
