-- `base_buffers::clear` fills its slice with blanks. Assumes nothing.
use Rattle.std.proofs.Common.{◌≡◌, ◌++◌, replicate}
use Rattle.std.proofs.Math.ListN.{drop}
use Rattle.base_buffers.proofs.clear.Given as goal

abbrev pub invariant-loop-cell : goal.invariant-loop-cell
invariant-loop-cell g l = l.b ≡ replicate l.cell-index l.blank ++ drop l.cell-index l.initial.b
