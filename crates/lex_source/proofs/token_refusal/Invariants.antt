-- `lex_source::token_refusal` meets its contract. Assumes nothing.
use Prim.Native.Nat.{◌-◌}
use mathlib.Core.Path.{◌≡◌}
use lib.ListN.{length}
use Rattle.rules.proofs.Walk.{tokens_on}
use Rattle.lex_source.proofs.token_refusal.Given as goal

abbrev pub invariant-loop-t : goal.invariant-loop-t
invariant-loop-t l = tokens_on l.src l.at ≡ tokens_on l.src 0

abbrev pub decreases-loop-t : goal.decreases-loop-t
decreases-loop-t l = length l.src - l.at
