-- `lex_reserved::cell` meets its contract. Assumes nothing.
use mathlib.Core.Path.{ap}
use mathlib.Core.List.{List, []}
use Prim.Native.Nat.{ℕ}
use lib.ListN.{get_or}
use Rattle.lex_reserved.specs.Table.{row}
use Rattle.lex_reserved.proofs.cell.Goals as goal

pub returns : goal.returns
unfolding row
returns c = ap (λ (t : List (List ℕ)). get_or (get_or t c.args.i []) c.args.j 0) c.requires.0
