-- `base_text::compare_from` meets its contract. Assumes nothing.
use Rattle.std.proofs.Common.{arith, refl, ◌∙◌}
use Rattle.base_text.proofs.NameLaws.{map_same, order_met, order-again, order_done}
use Rattle.base_text.proofs.compare_from.Goals as goal

pub loop-i-init : goal.loop-i-init
loop-i-init c = simp map_same

pub returns-then-a-i : goal.returns-then-a-i
returns-then-a-i c = c.cmp.ensures ∙ order_met (λ x. x) c.args.a.now c.args.b.now refl refl (omega arith) (omega arith) c.loop-i.invariant c.if-a-i.true

pub loop-i-preserved : goal.loop-i-preserved
loop-i-preserved c = order-again (λ x. x) c.args.a.now c.args.b.now refl refl (omega arith) (omega arith) c.loop-i.invariant c.if-a-i.false

pub returns : goal.returns
returns c = c.cmp-2.ensures ∙ order_done (λ x. x) c.args.a.now c.args.b.now (omega arith) (omega arith) (omega arith) c.loop-i.invariant
