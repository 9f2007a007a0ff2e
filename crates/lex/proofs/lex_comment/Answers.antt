-- `lex::lex_comment` meets its contract. Assumes nothing.
use mathlib.Core.Path.{◌∙◌, ap}
use Rattle.lex_token.specs.Flat.{flat_next}
use Rattle.lex.proofs.Told.{comment-line, comment-end}
use Rattle.lex.proofs.lex_comment.Goals as goal

pub returns-then-end-src : goal.returns-then-end-src
returns-then-end-src c = c.flat.ensures ∙ ap flat_next (comment-line c.args.src.now c.args.start c.requires c.run_end-end.ensures c.if-end-src.true)

pub returns : goal.returns
returns c = c.flat-2.ensures ∙ ap flat_next (comment-end c.args.src.now c.args.start c.requires c.run_end-end.ensures c.if-end-src.false)
