-- `stored_write_blocks::blocks_size` meets its contract. Assumes nothing.
use borrow.Author.Rules.{rules}
use Rattle.stored_write_blocks.proofs.Blocks.{blocks-summed-none, sum-part, sum-few, sum-marked, sum_fits, blocks-summed-more, blocks-summed-all}
use Rattle.stored_write_blocks.proofs.blocks_size.Goals as goal

pub loop-k-init : goal.loop-k-init
loop-k-init c = search (rules, blocks-summed-none)

pub overflow_add-stop : goal.overflow_add-stop
overflow_add-stop c = let room = sum-part _ _ _ _ c.requires.blocks_ok c.requires.marks_ok _ _ _ _ c.loop-k.invariant c.loop-k-test.true c.from.ensures in search rules

pub slice_bounds-runs_size-end : goal.slice_bounds-runs_size-end
slice_bounds-runs_size-end c = let room = sum-part _ _ _ _ c.requires.blocks_ok c.requires.marks_ok _ _ _ _ c.loop-k.invariant c.loop-k-test.true c.from.ensures in search rules

pub runs_size-requires : goal.runs_size-requires
runs_size-requires c = record { marked = sum-marked _ _ _ _ c.requires.blocks_ok c.requires.marks_ok _ _ _ _ c.loop-k.invariant c.loop-k-test.true c.from.ensures; marks_len_bound = sum-few _ _ _ _ c.requires.blocks_ok c.requires.marks_ok _ _ _ _ c.loop-k.invariant c.loop-k-test.true c.from.ensures }

pub overflow_add-size-in-loop-k : goal.overflow_add-size-in-loop-k
overflow_add-size-in-loop-k c = let room = sum_fits _ _ _ _ c.requires.blocks_ok c.requires.marks_ok _ _ _ _ c.loop-k.invariant c.loop-k-test.true c.from.ensures _ c.runs_size.ensures in search rules

pub loop-k-preserved : goal.loop-k-preserved
loop-k-preserved c = blocks-summed-more _ _ _ _ c.requires.blocks_ok c.requires.marks_ok _ _ _ _ c.loop-k.invariant c.loop-k-test.true c.from.ensures _ c.runs_size.ensures

pub returns : goal.returns
returns c = search (rules, blocks-summed-all)
