-- `lex_source::first_refusal` meets its contract. Assumes nothing.
use borrow.Author.Rules.{rules}
use Rattle.rules.proofs.Walk.{whole_long}
use Rattle.lex_source.specs.Lexed.{meant_lexed}
use Rattle.lex_source.proofs.WalkSteps.{whole-high, whole-low}
use Rattle.lex_source.proofs.first_refusal.Goals as goal

pub returns-then-src-gt-SOURCE_BYTES : goal.returns-then-src-gt-SOURCE_BYTES
unfolding meant_lexed
returns-then-src-gt-SOURCE_BYTES c = whole_long c.args.src.now c.if-src-gt-SOURCE_BYTES.true

pub returns-then-high-src : goal.returns-then-high-src
returns-then-high-src c = search (rules, whole-high)

pub returns : goal.returns
returns c = search (rules, whole-low)
