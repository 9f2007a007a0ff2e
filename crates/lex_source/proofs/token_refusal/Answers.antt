-- `lex_source::token_refusal` meets its contract. Assumes nothing.
use borrow.Author.Rules.{rules}
use Prim.Native.Nat.{◌-◌}
use mathlib.Core.Path.{refl}
use Rattle.lex_source.proofs.WalkSteps.{walk-less, walk-on, walk-stop}
use Rattle.lex_source.proofs.token_refusal.Goals as goal

pub loop-t-init : goal.loop-t-init
loop-t-init c = refl

pub returns-then-t-ge-END : goal.returns-then-t-ge-END
returns-then-t-ge-END c = search (rules, walk-stop)

pub loop-t-smaller : goal.loop-t-smaller
loop-t-smaller c = search (rules, walk-less)

pub loop-t-preserved : goal.loop-t-preserved
loop-t-preserved c = search (rules, walk-on)
