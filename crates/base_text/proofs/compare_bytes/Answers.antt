-- `base_text::compare_bytes` meets its contract: a law for each way through the loop. Assumes nothing.
use Rattle.std.proofs.Common.{arith, ◌∙◌}
use borrow.Author.Rules.{rules}
use Rattle.base_text.proofs.KeyLaws.{alike-none, alike-rest, alike-met, alike_next}
use Rattle.base_text.proofs.compare_bytes.Goals as goal

pub loop-i-init : goal.loop-i-init
loop-i-init c = alike-none _ _ _

pub returns-then-x-y : goal.returns-then-x-y
returns-then-x-y c = c.cmp.ensures ∙ alike-met c.loop-i.invariant (λ k. omega (arith, c.type_inv.a k)) (λ k. omega (arith, c.type_inv.b k)) (omega arith) (omega arith) c.loop-i-test.true c.key_at-x.ensures c.key_at-y.ensures c.if-x-y.true

pub loop-i-preserved : goal.loop-i-preserved
loop-i-preserved c = alike_next c.loop-i.invariant (λ k. omega (arith, c.type_inv.a k)) (λ k. omega (arith, c.type_inv.b k)) (omega arith) (omega arith) c.loop-i-test.true c.key_at-x.ensures c.key_at-y.ensures c.if-x-y.false

pub returns : goal.returns
returns c = search (rules, alike-rest)
