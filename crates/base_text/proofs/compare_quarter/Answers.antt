-- `base_text::compare_quarter` meets its contract: a law for each return. Assumes nothing.
use Rattle.std.proofs.Common.{arith, ◌∙◌}
use Rattle.base_text.proofs.KeyLaws.{rest_met, rest-next, two-left}
use Rattle.base_text.proofs.compare_quarter.Goals as goal

pub returns-then-x-y : goal.returns-then-x-y
returns-then-x-y c = c.cmp.ensures ∙ rest_met _ _ _ _ (two-left _ _ (λ k. omega (arith, c.type_inv.a k)) (λ k. omega (arith, c.type_inv.b k)) _ _ c.requires.1 c.requires.2 c.if-shared-at-lt-QUARTER_BYTES.false c.two_at-x.ensures.0 c.two_at-y.ensures.0) c.if-x-y.true

pub returns : goal.returns
returns c = rest-next _ _ _ _ (two-left _ _ (λ k. omega (arith, c.type_inv.a k)) (λ k. omega (arith, c.type_inv.b k)) _ _ c.requires.1 c.requires.2 c.if-shared-at-lt-QUARTER_BYTES.false c.two_at-x.ensures.0 c.two_at-y.ensures.0) c.if-x-y.false c.compare_from-2.ensures
