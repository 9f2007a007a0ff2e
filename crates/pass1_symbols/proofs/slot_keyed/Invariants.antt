-- `pass1_symbols::slot_keyed` meets its contract. Assumes nothing.
use Prim.Native.Nat.{◌-◌}
use mathlib.Core.List.{map}
use Rattle.rules.specs.Tokens.{upper}
use Rattle.object.proofs.Halving.{Halving}
use Rattle.pass1_symbols.proofs.slot_keyed.Given as goal

abbrev pub invariant-loop-lo : goal.invariant-loop-lo
invariant-loop-lo l = Halving l.rows l.src l.n (map upper l.name) l.lo l.hi

abbrev pub decreases-loop-lo : goal.decreases-loop-lo
decreases-loop-lo l = l.hi - l.lo
