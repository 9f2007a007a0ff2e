-- `list_sections::put_blocks` meets its contract. Assumes nothing.
use borrow.Author.Rules.{rules}
use Rattle.list_sections.proofs.Blocks.{blocked-none, part-words, part-marks, part_low, part_same, part-fits, part-more, blocked-all}
use Rattle.list_sections.proofs.put_blocks.Goals as goal

pub loop-k-init : goal.loop-k-init
loop-k-init c = search (rules, blocked-none)

pub overflow_add-stop : goal.overflow_add-stop
overflow_add-stop c = let room = part-words _ _ _ _ _ _ _ c.requires.blocks_ok c.requires.words_ok c.requires.marks_in_bounds _ _ _ _ _ c.loop-k.invariant c.loop-k-test.true c.from-size.ensures in search rules

pub offset_bounds-words-first : goal.offset_bounds-words-first
offset_bounds-words-first c = let room = part-words _ _ _ _ _ _ _ c.requires.blocks_ok c.requires.words_ok c.requires.marks_in_bounds _ _ _ _ _ c.loop-k.invariant c.loop-k-test.true c.from-size.ensures in search rules

pub slice_bounds-put_block-end : goal.slice_bounds-put_block-end
slice_bounds-put_block-end c = let room = part-words _ _ _ _ _ _ _ c.requires.blocks_ok c.requires.words_ok c.requires.marks_in_bounds _ _ _ _ _ c.loop-k.invariant c.loop-k-test.true c.from-size.ensures in search rules

pub slice_bounds-put_block-end-in-loop-k : goal.slice_bounds-put_block-end-in-loop-k
slice_bounds-put_block-end-in-loop-k c = let room = part-marks _ _ _ _ _ _ _ c.requires.blocks_ok c.requires.words_ok c.requires.marks_in_bounds _ _ _ _ _ c.loop-k.invariant c.loop-k-test.true c.from-size.ensures in search rules

pub put_block-end-requires : goal.put_block-end-requires
put_block-end-requires c =
    let low = part_low _ _ _ _ _ _ _ c.requires.blocks_ok c.requires.words_ok c.requires.marks_in_bounds _ _ _ _ _ c.loop-k.invariant c.loop-k-test.true c.from-size.ensures in
    let same = part_same _ _ _ _ _ _ _ c.requires.blocks_ok c.requires.words_ok c.requires.marks_in_bounds _ _ _ _ _ c.loop-k.invariant c.loop-k-test.true c.from-size.ensures in
    let room = part-fits _ _ _ _ _ _ _ c.requires.blocks_ok c.requires.words_ok c.requires.marks_in_bounds _ _ _ _ _ c.loop-k.invariant c.loop-k-test.true c.from-size.ensures in
    search rules

pub loop-k-preserved : goal.loop-k-preserved
loop-k-preserved c = part-more _ _ _ _ _ _ _ c.requires.blocks_ok c.requires.words_ok c.requires.marks_in_bounds _ _ _ _ _ c.loop-k.invariant c.loop-k-test.true c.from-size.ensures _ _ c.put_block-end.ensures

pub returns : goal.returns
returns c = search (rules, blocked-all)
