-- `lex::lex_minus` meets its contract. Assumes nothing.
use mathlib.Core.Path.{◌∙◌, ap}
use Rattle.lex_token.specs.Flat.{flat_next}
use Rattle.lex.proofs.Told.{minus-plain, minus-hash}
use Rattle.lex.proofs.lex_minus.Goals as goal

pub returns-then-byte_at-eq35 : goal.returns-then-byte_at-eq35
returns-then-byte_at-eq35 c = c.flat.ensures ∙ ap flat_next (minus-hash c.args.src.now c.args.start c.requires c.byte_at.ensures c.if-byte_at-eq35.true c.run_end-h.ensures c.run_end.ensures)

pub returns : goal.returns
returns c = c.lex_signed_dec.ensures ∙ ap flat_next (minus-plain c.args.src.now c.args.start c.requires c.byte_at.ensures c.if-byte_at-eq35.false)
