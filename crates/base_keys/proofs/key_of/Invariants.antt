-- `base_keys::key_of` meets its contract. Assumes nothing.
use Prim.Native.Nat.{◌-◌}
use lib.ListN.{length}
use Rattle.base_keys.proofs.KeyLaws.{Weighing}
use Rattle.base_keys.proofs.key_of.Given as goal

abbrev pub invariant-loop-b : goal.invariant-loop-b
invariant-loop-b l = Weighing l.name l.key l.weight l.b-index
