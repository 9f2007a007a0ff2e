-- `stored_write_blocks::put_blocks` meets its contract. Assumes nothing.
use borrow.Author.Rules.{rules}
use Rattle.stored_write_blocks.proofs.Blocks.{blocked-none, part-words, part-marks, part-ready, part-fits, part-more, blocked-all}
use Rattle.stored_write_blocks.proofs.put_blocks.Goals as goal

pub loop-k-init : goal.loop-k-init
loop-k-init c = search (rules, blocked-none)

pub overflow_add-stop : goal.overflow_add-stop
overflow_add-stop c = let room = part-words _ _ _ _ _ _ _ c.requires.blocks_ok c.requires.words_ok c.requires.marks_in_bounds _ _ _ _ _ c.loop-k.invariant c.loop-k-test.true c.from.ensures in search rules

pub offset_bounds-words-first : goal.offset_bounds-words-first
offset_bounds-words-first c = let room = part-words _ _ _ _ _ _ _ c.requires.blocks_ok c.requires.words_ok c.requires.marks_in_bounds _ _ _ _ _ c.loop-k.invariant c.loop-k-test.true c.from.ensures in search rules

pub slice_bounds-put_block-end : goal.slice_bounds-put_block-end
slice_bounds-put_block-end c = let room = part-words _ _ _ _ _ _ _ c.requires.blocks_ok c.requires.words_ok c.requires.marks_in_bounds _ _ _ _ _ c.loop-k.invariant c.loop-k-test.true c.from.ensures in search rules

pub slice_bounds-put_block-end-in-loop-k : goal.slice_bounds-put_block-end-in-loop-k
slice_bounds-put_block-end-in-loop-k c = let room = part-marks _ _ _ _ _ _ _ c.requires.blocks_ok c.requires.words_ok c.requires.marks_in_bounds _ _ _ _ _ c.loop-k.invariant c.loop-k-test.true c.from.ensures in search rules

pub put_block-end-requires : goal.put_block-end-requires
put_block-end-requires c = record { cells_ready = part-ready _ _ _ _ _ _ _ c.requires.blocks_ok c.requires.words_ok c.requires.marks_in_bounds _ _ _ _ _ c.loop-k.invariant c.loop-k-test.true c.from.ensures; marks_in_bounds = part-fits _ _ _ _ _ _ _ c.requires.blocks_ok c.requires.words_ok c.requires.marks_in_bounds _ _ _ _ _ c.loop-k.invariant c.loop-k-test.true c.from.ensures }

pub loop-k-preserved : goal.loop-k-preserved
loop-k-preserved c = part-more _ _ _ _ _ _ _ c.requires.blocks_ok c.requires.words_ok c.requires.marks_in_bounds _ _ _ _ _ c.loop-k.invariant c.loop-k-test.true c.from.ensures _ _ c.put_block-end.ensures

pub returns : goal.returns
returns c = search (rules, blocked-all)
