-- `base_text::two_at` meets its contract. Assumes nothing.
use Rattle.std.proofs.Common.{◌+◌, arith}
use Rattle.base_text.proofs.KeyLaws.{two_is}
use Rattle.base_text.proofs.two_at.Goals as goal

pub overflow_mul-result : goal.overflow_mul-result
overflow_mul-result c = omega (arith, c.shared_slice_known-1.given c.args.at)

pub overflow_add-result : goal.overflow_add-result
overflow_add-result c = omega (arith, c.shared_slice_known-1.given c.args.at, c.shared_slice_known-1.given (c.args.at + 1))

pub returns : goal.returns
returns c = (
  two_is _ _ c.from.ensures c.from-2.ensures,
  omega (arith, c.shared_slice_known-1.given c.args.at, c.shared_slice_known-1.given (c.args.at + 1)),
)
