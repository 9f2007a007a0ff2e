-- `lex_literals::read_number` meets its contract. Assumes nothing.
use Rattle.std.proofs.Common.{refl, arith, rules, ◌∙◌}
use Rattle.lex_literals.proofs.NumberSteps.{scaled, wrong-met, ends-met, over-met, number-again, number_small, number-done}
use Rattle.lex_literals.proofs.read_number.Goals as goal

pub overflow_mul-more : goal.overflow_mul-more
overflow_mul-more c = omega (arith, scaled c.loop-i.value c.args.base c.loop-i.invariant.small c.requires.0)

pub overflow_add-more : goal.overflow_add-more
overflow_add-more c = omega (arith, scaled c.loop-i.value c.args.base c.loop-i.invariant.small c.requires.0)

pub returns-then-overflows : goal.returns-then-overflows
returns-then-overflows c = over-met _ _ _ _ _ c.loop-i-test.true (c.from-v.ensures ∙ c.digit_value.ensures) c.loop-i.invariant.same c.overflows.ensures c.if-overflows.true

pub returns-then-is_word : goal.returns-then-is_word
returns-then-is_word c = wrong-met _ _ _ _ _ c.loop-i-test.true (c.from-v.ensures ∙ c.digit_value.ensures) c.loop-i.invariant.same c.if-base-v.true c.is_word.ensures c.if-is_word.true

pub returns-then-base-v : goal.returns-then-base-v
returns-then-base-v c = ends-met _ _ _ _ _ c.loop-i-test.true (c.from-v.ensures ∙ c.digit_value.ensures) c.loop-i.invariant.same c.if-base-v.true c.is_word.ensures c.if-is_word.false c.number_ends.ensures

pub loop-i-preserved : goal.loop-i-preserved
loop-i-preserved c = record {
  same = number-again _ _ _ _ _ c.loop-i-test.true (c.from-v.ensures ∙ c.digit_value.ensures) c.loop-i.invariant.same c.overflows.ensures c.if-overflows.false c.if-base-v.false;
  small = number_small _ _ _ _ _ c.loop-i-test.true (c.from-v.ensures ∙ c.digit_value.ensures) c.loop-i.invariant.same c.overflows.ensures c.if-overflows.false c.if-base-v.false c.requires.1;
  within = omega arith;
}

pub returns : goal.returns
returns c = number-done _ _ _ _ _ c.loop-i-test.false (omega arith) c.loop-i.invariant.same c.number_ends-2.ensures
