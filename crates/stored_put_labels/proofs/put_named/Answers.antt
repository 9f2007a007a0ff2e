-- `stored_put_labels::put_named` meets its contract: a law for each tag. Assumes nothing.
use native.Mathlib.Omega.{arith}
use borrow.Author.Rules.{rules}
use Rattle.stored_put_labels.proofs.Rows.{head_in, head-low, address-in, defined-room, external-room, put-defined, put-external}
use Rattle.stored_put_labels.proofs.put_named.Goals as goal

pub overflow_add-start : goal.overflow_add-start
overflow_add-start c = omega (arith, head_in c.requires.named_at)

pub bounds-bytes-at : goal.bounds-bytes-at
bounds-bytes-at c = search (rules, head-low)

pub put_defined-requires : goal.put_defined-requires
put_defined-requires c = search (rules, address-in, defined-room)

pub put_external-requires : goal.put_external-requires
put_external-requires c = search (rules, external-room)

pub returns-then-bytes-at-eq-DEFINED_LABEL : goal.returns-then-bytes-at-eq-DEFINED_LABEL
returns-then-bytes-at-eq-DEFINED_LABEL c = search (rules, put-defined)

pub returns-else-bytes-at-eq-DEFINED_LABEL : goal.returns-else-bytes-at-eq-DEFINED_LABEL
returns-else-bytes-at-eq-DEFINED_LABEL c = search (rules, put-external)
