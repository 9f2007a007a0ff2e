-- `base_buffers::put_name` copies a slice into another. Assumes nothing.
use borrow.Author.Rules.{rules}
use Rattle.base_buffers.proofs.Pasted.{pasted-none, pasted-eight, pasted-rest}
use Rattle.base_buffers.proofs.put_name.Goals as goal

pub loop-i-init : goal.loop-i-init
loop-i-init c = search (rules, pasted-none)

pub loop-i-preserved : goal.loop-i-preserved
loop-i-preserved c = search (rules, pasted-eight)

pub returns : goal.returns
returns c = search (rules, pasted-rest)
