-- `list_sections::put_labels` meets its contract. Assumes nothing.
use borrow.Author.Rules.{rules}
use Rattle.rules.specs.Buffers.{view_labels}
use Rattle.rules.specs.Listing.{label_line}
use Rattle.list_sections.proofs.Texts.{label-low, rows_none, row_fits, row_more, rows_all}
use Rattle.list_sections.proofs.put_labels.Goals as goal

pub loop-k-init : goal.loop-k-init
unfolding view_labels
loop-k-init c = search (rules, rows_none)

pub put_label-end-requires : goal.put_label-end-requires
unfolding view_labels
put_label-end-requires c =
    let low = label-low _ _ _ _ c.requires.labels_ok c.loop-k-test.true in
    let room = row_fits label_line _ _ _ _ _ _ _ c.loop-k.invariant c.requires.names_in_bounds c.loop-k-test.true in
    search rules

pub loop-k-preserved : goal.loop-k-preserved
loop-k-preserved c = search (rules, row_more)

pub returns : goal.returns
unfolding view_labels
returns c = search (rules, rows_all)
