-- `base_text::four_at` meets its contract. Assumes nothing.
use Prim.Native.Nat.{◌+◌}
use Rattle.std.proofs.Common.{arith}
use Rattle.base_text.proofs.KeyLaws.{four_is}
use Rattle.base_text.proofs.four_at.Goals as goal

pub overflow_mul-result-2 : goal.overflow_mul-result-2
overflow_mul-result-2 c = omega (arith, c.shared_slice_known-1.given (c.args.at + 2))

pub overflow_add-result : goal.overflow_add-result
overflow_add-result c = omega (arith, c.shared_slice_known-1.given (c.args.at + 2))

pub overflow_add-result-2 : goal.overflow_add-result-2
overflow_add-result-2 c = omega (arith, c.shared_slice_known-1.given (c.args.at + 2), c.shared_slice_known-1.given (c.args.at + 3))

pub returns : goal.returns
returns c = (
  four_is _ _ c.two_at.ensures.0 c.from.ensures c.from-2.ensures,
  omega (arith, c.shared_slice_known-1.given (c.args.at + 2), c.shared_slice_known-1.given (c.args.at + 3)),
)
