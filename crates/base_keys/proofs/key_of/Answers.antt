-- `base_keys::key_of` meets its contract. Assumes nothing.
use Prim.Native.Nat.{◌-◌}
use native.Mathlib.Omega.{arith}
use Rattle.base_keys.proofs.KeyLaws.{weighing-none, product-low, sum_low, weighing-more, weighing-last, weighing-over}
use borrow.Author.Rules.{rules}
use Rattle.base_keys.proofs.key_of.Goals as goal

pub loop-b-init : goal.loop-b-init
loop-b-init c = weighing-none _

pub overflow_mul-key : goal.overflow_mul-key
overflow_mul-key c = omega (arith, product-low c.loop-b.invariant c.loop-b-test.true c.digit_of-digit.ensures c.from.ensures)

pub overflow_add-key : goal.overflow_add-key
overflow_add-key c = omega (arith, sum_low c.loop-b.invariant c.loop-b-test.true c.digit_of-digit.ensures c.from.ensures)

pub returns-then-weight-eq0 : goal.returns-then-weight-eq0
returns-then-weight-eq0 c = search (rules, weighing-last)

pub loop-b-preserved : goal.loop-b-preserved
loop-b-preserved c = search (rules, weighing-more)

pub returns : goal.returns
returns c = search (rules, weighing-over)
