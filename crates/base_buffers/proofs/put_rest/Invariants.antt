-- `base_buffers::put_rest` copies what is left of a slice. Assumes nothing.
use Rattle.base_buffers.proofs.Pasted.{Resting}
use Rattle.base_buffers.proofs.put_rest.Given as goal

abbrev pub invariant-loop-k : goal.invariant-loop-k
invariant-loop-k l = Resting l.initial.dst l.at l.src l.dst l.i l.k
