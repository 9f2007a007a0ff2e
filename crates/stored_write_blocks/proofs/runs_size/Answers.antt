-- `stored_write_blocks::runs_size` meets its contract. Assumes nothing.
use borrow.Author.Rules.{rules}
use Rattle.stored_write_blocks.proofs.Runs.{run-some, run-few, stop-within, run-less, run-summed, runs-summed-all}
use Rattle.stored_write_blocks.proofs.runs_size.Goals as goal

pub run_bytes-size-requires : goal.run_bytes-size-requires
run_bytes-size-requires c = search (rules, run-some, run-few)

pub overflow_add-size : goal.overflow_add-size
overflow_add-size c = let stop = stop-within c.args.marks.now c.loop-i.i c.run_ahead-n.result c.run_ahead-n.ensures c.loop-i-test.true in search rules

pub overflow_add-i : goal.overflow_add-i
overflow_add-i c = let stop = stop-within c.args.marks.now c.loop-i.i c.run_ahead-n.result c.run_ahead-n.ensures c.loop-i-test.true in search rules

pub loop-i-smaller : goal.loop-i-smaller
loop-i-smaller c = search (rules, run-less)

pub loop-i-preserved : goal.loop-i-preserved
loop-i-preserved c = search (rules, run-summed)

pub returns : goal.returns
returns c = search (rules, runs-summed-all)
