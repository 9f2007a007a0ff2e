-- `base_text::compare_bytes` meets its contract: a law for each way through the loop. Assumes nothing.
use Prim.Native.Nat.{◌-◌}
use Rattle.base_text.proofs.KeyLaws.{AlikeTo}
use Rattle.base_text.proofs.compare_bytes.Given as goal

abbrev pub invariant-loop-i : goal.invariant-loop-i
invariant-loop-i l = AlikeTo l.a l.b l.shared l.i

abbrev pub decreases-loop-i : goal.decreases-loop-i
decreases-loop-i l = l.shared - l.i
