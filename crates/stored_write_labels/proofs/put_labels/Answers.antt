-- `stored_write_labels::put_labels` meets its contract. Assumes nothing.
use borrow.Author.Rules.{rules}
use Rattle.list_sections.proofs.Sizes.{label-short}
use Rattle.list_sections.proofs.Texts.{label-low, row_more}
use Rattle.stored_write_labels.specs.Tables.{label_field}
use Rattle.stored_write_labels.proofs.Rows.{label-rows, fields-none, field_fits, fields-all}
use Rattle.stored_write_labels.proofs.put_labels.Goals as goal

pub loop-k-init : goal.loop-k-init
loop-k-init c = search (rules, label-rows, fields-none)

pub put_label-end-requires : goal.put_label-end-requires
put_label-end-requires c =
    let low = label-low _ _ _ _ c.requires.labels_ok c.loop-k-test.true in
    let place = (c.requires.labels_ok.rows _ c.loop-k-test.true).place in
    let short = label-short _ _ _ c.requires.labels_ok _ c.loop-k-test.true in
    let room = field_fits label_field _ _ _ _ _ (label-rows _ _ _) _ _ _ c.loop-k.invariant c.requires.names_in_bounds c.loop-k-test.true in
    search rules

pub loop-k-preserved : goal.loop-k-preserved
loop-k-preserved c = search (rules, row_more)

pub returns : goal.returns
returns c = search (rules, label-rows, fields-all)
