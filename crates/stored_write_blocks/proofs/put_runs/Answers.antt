-- `stored_write_blocks::put_runs` meets its contract. Assumes nothing.
use borrow.Author.Rules.{rules}
use Rattle.stored_write_blocks.proofs.Runs.{runs-out-none, stop-within, run-less, run_fits, run-fits-in, run_more, runs-out-all}
use Rattle.stored_write_blocks.proofs.put_runs.Goals as goal

pub loop-i-init : goal.loop-i-init
loop-i-init c = search (rules, runs-out-none)

pub overflow_add-stop : goal.overflow_add-stop
overflow_add-stop c = let stop = stop-within c.args.marks.now c.loop-i.i c.run_ahead-size.result c.run_ahead-size.ensures c.loop-i-test.true in search rules

pub slice_bounds-put_run-end : goal.slice_bounds-put_run-end
slice_bounds-put_run-end c = let stop = stop-within c.args.marks.now c.loop-i.i c.run_ahead-size.result c.run_ahead-size.ensures c.loop-i-test.true in search rules

pub put_run-end-requires : goal.put_run-end-requires
put_run-end-requires c = search (rules, run_fits, run-fits-in)

pub loop-i-smaller : goal.loop-i-smaller
loop-i-smaller c = search (rules, run-less)

pub loop-i-preserved : goal.loop-i-preserved
loop-i-preserved c = search (rules, run_more)

pub returns : goal.returns
returns c = search (rules, runs-out-all)
