-- `stored_load::load` meets its contract. Assumes nothing.
use mathlib.Core.Path.{sym, ◌∙◌}
use Rattle.stored_load.proofs.Answering.{too_short}
use Rattle.stored_load.proofs.load.Goals as goal

pub returns-then-is_short : goal.returns-then-is_short
returns-then-is_short c = too_short _ (sym c.is_short.ensures ∙ c.if-is_short.true) c.refuse.ensures

pub load_fields-requires : goal.load_fields-requires
load_fields-requires c = sym c.is_short.ensures ∙ c.if-is_short.false
