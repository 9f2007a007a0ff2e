-- `lex_reserved::row_is` meets its contract. Assumes nothing.
use Prim.Native.Nat.{◌-◌, ◌≤◌}
use mathlib.Core.Path.{◌≡◌}
use mathlib.Core.List.{map}
use Rattle.rules.specs.Base.{same}
use Rattle.rules.specs.Tokens.{upper}
use Rattle.lex_reserved.specs.Table.{row, name_of}
use Rattle.lex_reserved.proofs.Rows.{same_from}
use Rattle.lex_reserved.proofs.row_is.Given as goal

abbrev pub invariant-loop-j : goal.invariant-loop-j
invariant-loop-j l = (same_from l.i l.s l.j ≡ same (map upper l.s) (name_of (row l.i))) × (l.n ≤ 5)
