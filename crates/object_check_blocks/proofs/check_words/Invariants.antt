-- `object_check_blocks::check_words` meets its contract. Assumes nothing.
use Prim.Native.Nat.{◌-◌}
use Rattle.object_check_blocks.proofs.Words.{WordsTo}
use Rattle.object_check_blocks.proofs.check_words.Given as goal

abbrev pub invariant-loop-i : goal.invariant-loop-i
invariant-loop-i l = WordsTo l.words l.marks l.w l.i

abbrev pub decreases-loop-i : goal.decreases-loop-i
decreases-loop-i l = l.w - l.i
