-- `stored_walk::step_set` meets its contract: a law for each return. Assumes nothing.
use mathlib.Core.Path.{refl, sym, ◌∙◌}
use Rattle.stored_walk.proofs.Runs.{set-owed, set-taken, set-refused, set-odd}
use Rattle.stored_walk.proofs.step_set.Goals as goal

pub grown-requires : goal.grown-requires
grown-requires c = record { size_le_owed = set-owed _ _ (sym c.set_fits.ensures ∙ c.if-set_fits.true); owed_bound = c.requires.owed_bound }

pub returns-then-set_fits : goal.returns-then-set_fits
returns-then-set_fits c b f = set-taken b _ _ _ _ f refl c.if-length-eq0.true (sym c.set_fits.ensures ∙ c.if-set_fits.true) _ c.set_kind.ensures _ c.grown.ensures

pub returns-then-length-eq0 : goal.returns-then-length-eq0
returns-then-length-eq0 c b f = set-refused b _ _ _ _ f refl c.if-length-eq0.true (sym c.set_fits.ensures ∙ c.if-set_fits.false)

pub returns : goal.returns
returns c b f = set-odd b _ _ _ _ f refl c.if-length-eq0.false
