-- `pass2_encode::instr_word` meets its contract. Assumes nothing.
use mathlib.Core.Path.{refl}
use Rattle.pass2_encode.proofs.Wording.{instr-aimed, instr-bare}
use Rattle.pass2_encode.proofs.instr_word.Goals as goal

pub returns-then-st-eq-NO_LABEL : goal.returns-then-st-eq-NO_LABEL
returns-then-st-eq-NO_LABEL c = λ at s f o. instr-bare _ _ _ _ c.requires.0 c.if-st-eq-NO_LABEL.true _ refl _ at s f

pub returns : goal.returns
returns c = λ at s f o. instr-aimed _ _ _ _ c.requires.0 c.if-st-eq-NO_LABEL.false _ _ c.word_to_label.ensures at s f o
