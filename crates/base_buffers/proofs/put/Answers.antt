-- `base_buffers::put` copies a slice into another. Assumes nothing.
use lib.Seq.{paste-zero}
use Rattle.base_buffers.proofs.Pasted.{cell-pasted, cells-pasted}
use Rattle.base_buffers.proofs.put.Goals as goal

pub loop-i-init : goal.loop-i-init
loop-i-init g c = paste-zero c.args.dst.now c.args.at c.args.src.now

pub loop-i-preserved : goal.loop-i-preserved
loop-i-preserved g c = cell-pasted c.args.dst.now c.args.src.now c.loop-i.dst c.args.at c.loop-i.i c.loop-i.invariant c.requires c.loop-i-test.true c.index-src-i.is

pub returns : goal.returns
returns g c = cells-pasted c.args.dst.now c.args.src.now c.loop-i.dst c.args.at c.loop-i.i c.loop-i.invariant c.loop-i-test.false c.loop-i.auto.i-end
