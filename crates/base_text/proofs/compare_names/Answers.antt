-- `base_text::compare_names` meets its contract. Assumes nothing.
use Rattle.std.proofs.Common.{arith, refl, ap, ◌∙◌}
use Rattle.rules.specs.Tokens.{upper}
use Rattle.base_text.proofs.Rest.{from_start}
use Rattle.base_text.proofs.NameLaws.{order_met, order-again, order_done}
use Rattle.base_text.proofs.compare_names.Goals as goal
use Rattle.base_text.proofs.compare_names.Goals.{then-a-i+else-x-y, else-a-i}

pub loop-i-init : goal.loop-i-init
loop-i-init c = simp from_start

pub returns-then-x-y : goal.returns-then-x-y
returns-then-x-y c = c.cmp.ensures ∙ order_met upper c.args.a.now c.args.b.now c.upper_case-x.ensures c.upper_case-y.ensures (omega arith) (omega arith) c.loop-i.invariant c.if-x-y.true

pub loop-i-preserved : goal.loop-i-preserved
loop-i-preserved c =
    elim c.if-a-i.branch [
      | then-a-i+else-x-y w ↦ order-again upper c.args.a.now c.args.b.now w.upper_case-x.ensures w.upper_case-y.ensures (omega arith) (omega arith) c.loop-i.invariant w.if-x-y.false
      | else-a-i w ↦ order-again upper c.args.a.now c.args.b.now refl refl (omega arith) (omega arith) c.loop-i.invariant (ap upper w.if-a-i.false)
    ]

pub returns : goal.returns
returns c = c.cmp-2.ensures ∙ order_done upper c.args.a.now c.args.b.now (omega arith) (omega arith) (omega arith) c.loop-i.invariant
