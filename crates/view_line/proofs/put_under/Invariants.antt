-- `view_line::put_under` meets its contract. Assumes nothing.
use Rattle.view_text.specs.Put.{Put}
use lib.ListN.{take}
use Rattle.view_line.specs.Shown.{under_byte}
use mathlib.Core.List.{map}
use Rattle.view_line.proofs.put_under.Given as goal

abbrev pub invariant-loop-b : goal.invariant-loop-b
invariant-loop-b l = Put l.initial.out l.out l.at l.end (map (under_byte l.mark) (take l.b-index l.text))
