-- `stored_walk::step_defined` meets its contract: a law for each return. Assumes nothing.
use Rattle.stored_walk.proofs.Labels.{named-defined, defined-short}
use Rattle.stored_walk.proofs.step_defined.Goals as goal

pub returns-then-end-start-lt-NUMBER_BYTES : goal.returns-then-end-start-lt-NUMBER_BYTES
returns-then-end-start-lt-NUMBER_BYTES c = defined-short _ _ _ _ _ c.requires.stands c.if-end-start-lt-NUMBER_BYTES.true

pub step_label-requires : goal.step_label-requires
step_label-requires c = record { going = c.requires.going; named_at = named-defined _ _ _ _ c.requires.stands c.if-end-start-lt-NUMBER_BYTES.false }
