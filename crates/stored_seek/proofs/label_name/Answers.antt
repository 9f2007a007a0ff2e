-- `stored_seek::label_name` meets its contract: in each arm what stands at the position is known. Assumes nothing.
use native.Mathlib.Omega.{arith}
use borrow.Author.Rules.{rules}
use Rattle.stored_read.proofs.Found.{says-found}
use Rattle.stored_seek.proofs.Labels.{named-over, named-short, named-defined, named-outer}
use Rattle.stored_seek.proofs.label_name.Goals as goal

pub overflow_add-start : goal.overflow_add-start
overflow_add-start c = let x = says-found _ _ _ c.field_at.ensures _ _ _ c.in-Found.is in omega (arith, x.ends, x.within)

pub returns-then-tag-eq-DEFINED_LABEL : goal.returns-then-tag-eq-DEFINED_LABEL
returns-then-tag-eq-DEFINED_LABEL c = search (rules, named-defined)

pub returns-in-Over : goal.returns-in-Over
returns-in-Over c = search (rules, named-over)

pub returns-in-CutShort : goal.returns-in-CutShort
returns-in-CutShort c = search (rules, named-short)

pub returns-else-tag-eq-DEFINED_LABEL : goal.returns-else-tag-eq-DEFINED_LABEL
returns-else-tag-eq-DEFINED_LABEL c = search (rules, named-outer)
