-- `view_refusal::put_run` meets its contract. Assumes nothing.
use Rattle.view_refusal.proofs.MeaningLaws.{run_in, run-put}
use borrow.Author.Rules.{rules}
use Rattle.view_refusal.proofs.put_run.Goals as goal

pub slice_bounds-put-end : goal.slice_bounds-put-end
slice_bounds-put-end c = search (rules, run_in)

pub returns : goal.returns
returns c = search (rules, run-put)
