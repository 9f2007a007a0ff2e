-- `stored_write_labels::labels_size` meets its contract. Assumes nothing.
use borrow.Author.Rules.{rules}
use native.Mathlib.Omega.{arith}
use Rattle.stored_write_labels.proofs.Rows.{label-rows}
use Rattle.stored_write_labels.proofs.Sizes.{added_none, added_more, added-all, name-low, sized_row}
use Rattle.stored_write_labels.proofs.labels_size.Goals as goal

pub loop-k-init : goal.loop-k-init
loop-k-init c = search (rules, added_none)

pub label_size-size-requires : goal.label_size-size-requires
label_size-size-requires c = search (rules, name-low)

pub overflow_add-size : goal.overflow_add-size
overflow_add-size c = omega (arith, c.requires.few, c.loop-k.invariant.small, c.loop-k-test.true, (sized_row c.requires c.loop-k-test.true c.label_size-size.ensures).small)

pub loop-k-preserved : goal.loop-k-preserved
loop-k-preserved c = search (rules, added_more, sized_row)

pub returns : goal.returns
returns c = search (rules, label-rows, added-all)
