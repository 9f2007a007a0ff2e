-- `view_line::put_shown` meets its contract. Assumes nothing.
use Rattle.view_text.specs.Put.{Put}
use lib.ListN.{take}
use Rattle.view_line.specs.Shown.{shown_byte}
use mathlib.Core.List.{map}
use Rattle.view_line.proofs.put_shown.Given as goal

abbrev pub invariant-loop-b : goal.invariant-loop-b
invariant-loop-b l = Put l.initial.out l.out l.at l.end (map shown_byte (take l.b-index l.text))
