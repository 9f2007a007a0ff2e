-- `stored_walk::step_relocation` meets its contract: a law for each return. Assumes nothing.
use native.Mathlib.Omega.{arith}
use mathlib.Core.Path.{sym, ◌∙◌}
use Rattle.stored_walk.proofs.Relocations.{reloc-at, reloc-refused, reloc-short}
use Rattle.stored_walk.proofs.step_relocation.Goals as goal

pub returns-then-end-start-lt-NUMBER_BYTES : goal.returns-then-end-start-lt-NUMBER_BYTES
returns-then-end-start-lt-NUMBER_BYTES c = reloc-short _ _ _ _ _ c.requires.stands c.if-end-start-lt-NUMBER_BYTES.true

pub step_named-requires : goal.step_named-requires
step_named-requires c =
    let wanted = c.from-wanted.ensures ∙ c.number_at.ensures in
    record { going = c.requires.going; reloc_at = reloc-at _ _ _ _ _ c.requires.stands c.if-end-start-lt-NUMBER_BYTES.false wanted (omega arith); wanted_value = sym c.reloc_fits.ensures ∙ c.if-reloc_fits.true }

pub returns : goal.returns
returns c = reloc-refused _ _ _ _ _ _ c.requires.stands c.if-end-start-lt-NUMBER_BYTES.false (c.from-wanted.ensures ∙ c.number_at.ensures) (sym c.reloc_fits.ensures ∙ c.if-reloc_fits.false)
