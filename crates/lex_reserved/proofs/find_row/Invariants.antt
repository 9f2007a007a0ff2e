-- `lex_reserved::find_row` meets its contract. Assumes nothing.
use Prim.Native.Nat.{◌-◌}
use mathlib.Core.Path.{◌≡◌}
use mathlib.Core.List.{map}
use Rattle.rules.specs.Tokens.{upper}
use Rattle.lex_reserved.specs.Table.{find_in}
use Rattle.lex_reserved.proofs.find_row.Given as goal

abbrev pub invariant-loop-i : goal.invariant-loop-i
invariant-loop-i l = find_in (l.last - l.i) l.i (map upper l.s) ≡ find_in (l.last - l.first) l.first (map upper l.s)
