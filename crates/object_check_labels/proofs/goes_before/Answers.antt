-- `object_check_labels::goes_before` meets its contract. Assumes nothing.
use native.Mathlib.Omega.{arith}
use Rattle.object_check_labels.proofs.Rules.{before-key}
use Rattle.object_check_labels.proofs.goes_before.Goals as goal

pub returns-then-x-y : goal.returns-then-x-y
returns-then-x-y c = before-key _ _ (λ k. omega (arith, c.type_inv.a k)) (λ k. omega (arith, c.type_inv.b k)) c.if-a-lt-KEY_BYTES.false c.if-b-lt-KEY_BYTES.false c.key_at-x.ensures c.key_at-y.ensures c.if-x-y.true
