-- `stored_write_labels::put_relocations` meets its contract. Assumes nothing.
use borrow.Author.Rules.{rules}
use Rattle.list_sections.proofs.Texts.{row_more}
use Rattle.stored_write_labels.specs.Tables.{reloc_field}
use Rattle.stored_write_labels.proofs.Rows.{reloc-rows, fields-none, field_fits, fields-all}
use Rattle.stored_write_labels.proofs.put_relocations.Goals as goal

pub loop-k-init : goal.loop-k-init
loop-k-init c = search (rules, reloc-rows, fields-none)

pub put_relocation-end-requires : goal.put_relocation-end-requires
put_relocation-end-requires c =
    let low = c.requires.relocs_low.low _ c.loop-k-test.true in
    let short = c.requires.relocs_named.short _ c.loop-k-test.true in
    let room = field_fits reloc_field _ _ _ _ _ (reloc-rows _ _ _ _) _ _ _ c.loop-k.invariant c.requires.names_in_bounds c.loop-k-test.true in
    search rules

pub loop-k-preserved : goal.loop-k-preserved
loop-k-preserved c = search (rules, row_more)

pub returns : goal.returns
returns c = search (rules, reloc-rows, fields-all)
