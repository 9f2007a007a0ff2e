-- `lex::lex_return` meets its contract. Assumes nothing.
use mathlib.Core.Path.{◌∙◌, ap}
use Rattle.lex_token.specs.Flat.{flat_next}
use Rattle.lex.proofs.Told.{return-line, return_alone}
use Rattle.lex.proofs.lex_return.Goals as goal

pub returns-then-byte_at-eq10 : goal.returns-then-byte_at-eq10
returns-then-byte_at-eq10 c = c.flat.ensures ∙ ap flat_next (return-line c.args.src.now c.args.start c.requires c.byte_at.ensures c.if-byte_at-eq10.true)

pub returns : goal.returns
returns c = c.flat-2.ensures ∙ ap flat_next (return_alone c.args.src.now c.args.start c.requires c.byte_at.ensures c.if-byte_at-eq10.false)
