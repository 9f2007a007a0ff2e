-- `list::list_object` meets its contract. Assumes nothing.
use Rattle.list.proofs.Length.{relocs-low}
use Rattle.list.proofs.Listing.{first_fits, second_fits, third-fits, no_room, all-written}
use Rattle.list.proofs.list_object.Goals as goal

pub returns-then-out-size : goal.returns-then-out-size
returns-then-out-size c = no_room _ _ c.listing_size-size.ensures _ c.requires.out_value c.if-out-size.true

pub put_blocks-first-requires : goal.put_blocks-first-requires
put_blocks-first-requires c =
    let room = first_fits _ _ c.listing_size-size.ensures c.args.out.now c.if-out-size.false in
    record { blocks_ok = c.requires.valid.blocks; words_ok = c.requires.valid.words; marks_in_bounds = room }

pub put_labels-second-requires : goal.put_labels-second-requires
put_labels-second-requires c =
    let room = second_fits _ _ c.listing_size-size.ensures _ _ _ c.if-out-size.false c.put_blocks-first.ensures in
    record { labels_ok = c.requires.valid.labels; names_in_bounds = room }

pub put_relocations-end-requires : goal.put_relocations-end-requires
put_relocations-end-requires c =
    let room = third-fits _ _ c.listing_size-size.ensures _ _ _ _ _ c.if-out-size.false c.put_blocks-first.ensures c.put_labels-second.ensures in
    record { relocs_low = relocs-low _ _ c.requires.valid; names_in_bounds = room }

pub returns : goal.returns
returns c = all-written _ _ c.listing_size-size.ensures _ _ _ _ _ _ _ c.requires.out_value c.if-out-size.false c.put_blocks-first.ensures c.put_labels-second.ensures c.put_relocations-end.ensures
