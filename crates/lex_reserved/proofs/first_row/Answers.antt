-- `lex_reserved::first_row` meets its contract. Assumes nothing.
use mathlib.Core.Path.{◌∙◌, ap}
use Prim.Native.Nat.{ℕ}
use lib.ListN.{get_or}
use Rattle.lex_reserved.specs.Table.{starts, first_row}
use Rattle.lex_reserved.proofs.first_row.Goals as goal

pub returns : goal.returns
unfolding starts first_row
returns c = c.from.ensures ∙ ap (λ (k : ℕ). get_or starts k 0) c.from-k.ensures
