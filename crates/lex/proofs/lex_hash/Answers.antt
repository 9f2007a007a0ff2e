-- `lex::lex_hash` meets its contract. Assumes nothing.
use mathlib.Core.Path.{◌∙◌, ap}
use native.Mathlib.Omega.{arith}
use Rattle.base_text.proofs.Rest.{inside}
use Rattle.lex_token.specs.Flat.{flat_next}
use Rattle.lex.proofs.Told.{second-in, hash-minus, hash-plain, hash-hash-minus, hash-hash}
use Rattle.lex.proofs.lex_hash.Goals as goal

pub lex_signed_dec-requires : goal.lex_signed_dec-requires
lex_signed_dec-requires c = second-in c.args.src.now c.args.start c.requires c.byte_at-b.ensures c.if-b-eq45.true (omega arith)

pub returns-then-b-eq45 : goal.returns-then-b-eq45
returns-then-b-eq45 c = c.lex_signed_dec.ensures ∙ ap flat_next (hash-minus c.args.src.now c.args.start c.requires c.byte_at-b.ensures c.if-b-eq45.true)

pub overflow_add-h : goal.overflow_add-h
overflow_add-h c = omega (arith, inside c.args.src.now c.run_end-h.result (omega arith))

pub returns-then-byte_at-eq45 : goal.returns-then-byte_at-eq45
returns-then-byte_at-eq45 c = c.flat.ensures ∙ ap flat_next (hash-hash-minus c.args.src.now c.args.start c.requires c.byte_at-b.ensures c.if-b-eq35.true c.run_end-h.ensures c.if-b-eq45.false c.byte_at.ensures c.if-byte_at-eq45.true c.run_end.ensures)

pub returns-then-b-eq35 : goal.returns-then-b-eq35
returns-then-b-eq35 c = c.flat-then-b-eq35.ensures ∙ ap flat_next (hash-hash c.args.src.now c.args.start c.requires c.byte_at-b.ensures c.if-b-eq35.true c.run_end-h.ensures c.if-b-eq45.false c.byte_at.ensures c.if-byte_at-eq45.false c.run_end-then-b-eq35.ensures)

pub returns : goal.returns
returns c = c.lex_unsigned_dec.ensures ∙ ap flat_next (hash-plain c.args.src.now c.args.start c.requires c.byte_at-b.ensures c.if-b-eq45.false c.if-b-eq35.false)
