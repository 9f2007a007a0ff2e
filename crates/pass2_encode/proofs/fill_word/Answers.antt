-- `pass2_encode::fill_word` meets its contract. Assumes nothing.
use mathlib.Core.Path.{refl}
use Rattle.pass2_encode.proofs.Wording.{fill-aimed, fill-bare}
use Rattle.pass2_encode.proofs.fill_word.Goals as goal

pub returns-then-st-eq-NO_LABEL : goal.returns-then-st-eq-NO_LABEL
returns-then-st-eq-NO_LABEL c = λ at s f a. fill-bare _ _ _ _ c.requires c.if-st-eq-NO_LABEL.true _ refl at s f a

pub returns : goal.returns
returns c = λ at s f a. fill-aimed _ _ _ _ c.requires c.if-st-eq-NO_LABEL.false _ c.label_address.ensures at s f a
