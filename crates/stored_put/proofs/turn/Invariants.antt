-- `stored_put::turn` meets its contract. Assumes nothing.
use Rattle.stored_put.proofs.Words.{Turning}
use Rattle.stored_put.proofs.turn.Given as goal

abbrev pub invariant-loop-word : goal.invariant-loop-word
invariant-loop-word l = Turning l.initial.word-items l.word-items l.word-index
