-- `list_sections::put_relocations` meets its contract. Assumes nothing.
use borrow.Author.Rules.{rules}
use Rattle.rules.specs.Buffers.{view_relocs}
use Rattle.rules.specs.Listing.{reloc_line}
use Rattle.list_sections.proofs.Texts.{rows_none, row_fits, row_more, rows_all}
use Rattle.list_sections.proofs.put_relocations.Goals as goal

pub loop-k-init : goal.loop-k-init
unfolding view_relocs
loop-k-init c = search (rules, rows_none)

pub put_relocation-end-requires : goal.put_relocation-end-requires
unfolding view_relocs
put_relocation-end-requires c =
    let low = c.requires.relocs_low.low _ c.loop-k-test.true in
    let room = row_fits reloc_line _ _ _ _ _ _ _ c.loop-k.invariant c.requires.names_in_bounds c.loop-k-test.true in
    search rules

pub loop-k-preserved : goal.loop-k-preserved
loop-k-preserved c = search (rules, row_more)

pub returns : goal.returns
unfolding view_relocs
returns c = search (rules, rows_all)
