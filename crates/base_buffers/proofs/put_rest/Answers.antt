-- `base_buffers::put_rest` copies what is left of a slice. Assumes nothing.
use borrow.Author.Rules.{rules}
use Rattle.base_buffers.proofs.Pasted.{resting-none, resting-more, resting-all}
use Rattle.base_buffers.proofs.put_rest.Goals as goal

pub loop-k-init : goal.loop-k-init
loop-k-init c = search (rules, resting-none)

pub loop-k-preserved : goal.loop-k-preserved
loop-k-preserved c = search (rules, resting-more)

pub returns : goal.returns
returns c = search (rules, resting-all)
