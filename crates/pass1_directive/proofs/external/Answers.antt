-- `pass1_directive::external` meets its contract. Assumes nothing.
use Rattle.pass1_directive.proofs.Directing.{external-bare, external-named}
use Rattle.pass1_directive.proofs.external.Goals as goal

pub returns-then-st-eq-NO_LABEL : goal.returns-then-st-eq-NO_LABEL
returns-then-st-eq-NO_LABEL c = external-bare _ _ _ c.requires.0 _ c.if-st-eq-NO_LABEL.true

pub returns : goal.returns
returns c = external-named _ _ _ c.requires.0 _ c.if-st-eq-NO_LABEL.false _ _ c.add_external.ensures
