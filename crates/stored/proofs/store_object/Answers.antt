-- `stored::store_object` meets its contract. Assumes nothing.
use Rattle.list.proofs.Length.{relocs-low, relocs-named}
use Rattle.stored.proofs.Storing.{first_fits, second_fits, third-fits, end_fits, no_room, all-written}
use Rattle.stored.proofs.store_object.Goals as goal

pub returns-then-bytes-size : goal.returns-then-bytes-size
returns-then-bytes-size c = no_room _ _ c.requires.valid _ c.stored_size-size.ensures _ c.requires.bytes_value c.if-bytes-size.true

pub put_blocks-first-requires : goal.put_blocks-first-requires
put_blocks-first-requires c =
    let room = first_fits _ _ c.requires.valid _ c.stored_size-size.ensures c.args.bytes.now c.if-bytes-size.false in
    record { blocks_ok = c.requires.valid.blocks; words_ok = c.requires.valid.words; marks_in_bounds = room }

pub put_labels-second-requires : goal.put_labels-second-requires
put_labels-second-requires c =
    let room = second_fits _ _ c.requires.valid _ c.stored_size-size.ensures _ _ _ c.if-bytes-size.false c.put_blocks-first.ensures in
    record { labels_ok = c.requires.valid.labels; names_in_bounds = room }

pub put_relocations-third-requires : goal.put_relocations-third-requires
put_relocations-third-requires c =
    let room = third-fits _ _ c.requires.valid _ c.stored_size-size.ensures _ _ _ _ _ c.if-bytes-size.false c.put_blocks-first.ensures c.put_labels-second.ensures in
    record { relocs_low = relocs-low _ _ c.requires.valid; relocs_named = relocs-named _ _ c.requires.valid; names_in_bounds = room }

pub put_end-end-requires : goal.put_end-end-requires
put_end-end-requires c = end_fits _ _ c.requires.valid _ c.stored_size-size.ensures _ _ _ _ _ _ _ c.if-bytes-size.false c.put_blocks-first.ensures c.put_labels-second.ensures c.put_relocations-third.ensures

pub returns : goal.returns
returns c = all-written _ _ c.requires.valid _ c.stored_size-size.ensures _ _ _ _ _ _ _ _ _ c.requires.bytes_value c.if-bytes-size.false c.put_blocks-first.ensures c.put_labels-second.ensures c.put_relocations-third.ensures c.put_end-end.ensures
