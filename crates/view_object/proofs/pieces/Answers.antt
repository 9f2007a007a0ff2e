-- `view_object::pieces` meets its contract. Assumes nothing.
use Rattle.std.proofs.Common.{arith}
use Rattle.view_object.specs.Pieces.{piece_count}
use Rattle.view_object.proofs.pieces.Goals as goal

pub returns : goal.returns
unfolding piece_count
returns c = omega arith
