-- `stored_walk::step_unset` meets its contract: a law for each return. Assumes nothing.
use mathlib.Core.Path.{sym, ◌∙◌}
use Rattle.stored_walk.proofs.Runs.{unset-owed, unset-taken, unset-refused, unset-long}
use Rattle.stored_walk.proofs.step_unset.Goals as goal

pub grown-requires : goal.grown-requires
grown-requires c = record { size_le_owed = unset-owed _ _ (sym c.unset_fits.ensures ∙ c.if-unset_fits.true); owed_bound = c.requires.owed_bound }

pub returns-then-unset_fits : goal.returns-then-unset_fits
returns-then-unset_fits c = unset-taken _ _ _ _ _ c.requires.stands c.if-end-start-eq-NUMBER_BYTES.true (c.from-size.ensures ∙ c.number_at.ensures) (sym c.unset_fits.ensures ∙ c.if-unset_fits.true) _ c.grown.ensures

pub returns-then-end-start-eq-NUMBER_BYTES : goal.returns-then-end-start-eq-NUMBER_BYTES
returns-then-end-start-eq-NUMBER_BYTES c = unset-refused _ _ _ _ _ c.requires.stands c.if-end-start-eq-NUMBER_BYTES.true (c.from-size.ensures ∙ c.number_at.ensures) (sym c.unset_fits.ensures ∙ c.if-unset_fits.false)

pub returns : goal.returns
returns c = unset-long _ _ _ _ c.requires.stands c.if-end-start-eq-NUMBER_BYTES.false
