-- `lex::lexeme_at` meets its contract. Assumes nothing.
use mathlib.Core.Path.{refl, ◌∙◌, ap}
use Rattle.lex_token.specs.Flat.{flat_next}
use Rattle.lex.proofs.First.{no-space, next-told, next-done}
use Rattle.lex.proofs.lexeme_at.Goals as goal

pub token_at-requires : goal.token_at-requires
token_at-requires c = (c.if-start-src.true, no-space c.args.src.now c.args.at c.run_end-start.ensures c.if-start-src.true)

pub returns-then-start-src : goal.returns-then-start-src
returns-then-start-src c = c.token_at.ensures ∙ ap flat_next (next-told c.args.src.now c.args.at c.run_end-start.ensures c.if-start-src.true refl)

pub returns : goal.returns
returns c = c.flat.ensures ∙ ap flat_next (next-done c.args.src.now c.args.at c.run_end-start.ensures c.if-start-src.false)
