-- `base_buffers::put_eight` meets its contract. Assumes nothing.
use native.Mathlib.Omega.{arith}
use lib.ListN.{length-set}
use Rattle.base_buffers.specs.Eights.{with_eight}
use mathlib.Core.Path.{refl}
use Rattle.base_buffers.proofs.put_eight.Goals as goal

pub bounds-dst-at-2 : goal.bounds-dst-at-2
bounds-dst-at-2 c = simp length-set (omega arith)

pub bounds-dst-at-3 : goal.bounds-dst-at-3
bounds-dst-at-3 c = simp length-set (omega arith)

pub bounds-dst-at-4 : goal.bounds-dst-at-4
bounds-dst-at-4 c = simp length-set (omega arith)

pub bounds-dst-at-5 : goal.bounds-dst-at-5
bounds-dst-at-5 c = simp length-set (omega arith)

pub bounds-dst-at-6 : goal.bounds-dst-at-6
bounds-dst-at-6 c = simp length-set (omega arith)

pub bounds-dst-at-7 : goal.bounds-dst-at-7
bounds-dst-at-7 c = simp length-set (omega arith)

pub bounds-dst-at-8 : goal.bounds-dst-at-8
bounds-dst-at-8 c = simp length-set (omega arith)

pub shape_of-dst : goal.shape_of-dst
shape_of-dst c = simp length-set

pub returns : goal.returns
unfolding with_eight
returns c = refl
