-- `pass2_words::put_chars` meets its contract. Assumes nothing.
use Prim.Native.Nat.{◌-◌}
use lib.ListN.{length}
use Rattle.pass2_words.proofs.Chars.{Putting}
use Rattle.pass2_words.proofs.put_chars.Given as goal

abbrev pub invariant-loop-byte : goal.invariant-loop-byte
invariant-loop-byte l = Putting l.src l.initial.words l.initial.marks l.words l.marks l.used l.at l.i l.k

abbrev pub decreases-loop-byte : goal.decreases-loop-byte
decreases-loop-byte l = length l.src - l.i
