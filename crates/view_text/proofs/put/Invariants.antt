-- `view_text::put` meets its contract. Assumes nothing.
use lib.ListN.{take}
use Rattle.view_text.specs.Put.{Put}
use Rattle.view_text.proofs.put.Given as goal

abbrev pub invariant-loop-b : goal.invariant-loop-b
invariant-loop-b l = Put l.initial.out l.out l.at l.end (take l.b-index l.text)
