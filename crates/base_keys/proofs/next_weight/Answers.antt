-- `base_keys::next_weight` meets its contract. Assumes nothing.
use Rattle.base_keys.proofs.KeyLaws.{next-none, next-some}
use Rattle.base_keys.proofs.next_weight.Goals as goal

pub returns-then-digit : goal.returns-then-digit
returns-then-digit c = next-none _ _ c.if-digit.true

pub returns : goal.returns
returns c = next-some _ _ c.if-digit.false
