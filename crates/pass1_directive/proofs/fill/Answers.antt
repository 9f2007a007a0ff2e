-- `pass1_directive::fill` meets its contract. Assumes nothing.
use Rattle.pass1_directive.proofs.Directing.{fill-bare, fill-named}
use Rattle.pass1_directive.proofs.fill.Goals as goal

pub returns-then-st-eq-NO_LABEL : goal.returns-then-st-eq-NO_LABEL
returns-then-st-eq-NO_LABEL c = fill-bare _ _ _ _ c.requires.0 _ c.if-st-eq-NO_LABEL.true

pub returns : goal.returns
returns c = fill-named _ _ _ _ c.requires.0 _ c.if-st-eq-NO_LABEL.false _ _ c.fill_label.ensures
