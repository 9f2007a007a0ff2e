-- `signed_offset` meets its contract, on either side of zero. Assumes nothing.
use Rattle.isa_fields.proofs.Numbers.{small, large, less-fits}
use Rattle.isa_fields.proofs.signed_offset.Goals as goal

pub overflow_sub-result : goal.overflow_sub-result
overflow_sub-result c = less-fits _ c.ranges.d.fits

pub returns-then-d-lt-SIGN : goal.returns-then-d-lt-SIGN
returns-then-d-lt-SIGN c = small _ c.ranges.d.fits c.if-d-lt-SIGN.true

pub returns-else-d-lt-SIGN : goal.returns-else-d-lt-SIGN
returns-else-d-lt-SIGN c = large _ c.ranges.d.fits c.if-d-lt-SIGN.false
