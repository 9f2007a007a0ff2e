-- `lex::lex_x` meets its contract. Assumes nothing.
use mathlib.Core.Path.{◌∙◌, ap}
use native.Mathlib.Omega.{arith}
use Rattle.lex_token.specs.Flat.{flat_next}
use Rattle.lex.proofs.Told.{second-in, x-minus, x-digit, x-word}
use Rattle.lex.proofs.lex_x.Goals as goal

pub lex_signed_hex-requires : goal.lex_signed_hex-requires
lex_signed_hex-requires c = second-in c.args.src.now c.args.start c.requires c.byte_at-b.ensures c.if-b-eq45.true (omega arith)

pub returns-then-b-eq45 : goal.returns-then-b-eq45
returns-then-b-eq45 c = c.lex_signed_hex.ensures ∙ ap flat_next (x-minus c.args.src.now c.args.start c.requires c.byte_at-b.ensures c.if-b-eq45.true)

pub returns-then-digit_value-lt-HEX_DIGITS : goal.returns-then-digit_value-lt-HEX_DIGITS
returns-then-digit_value-lt-HEX_DIGITS c = c.lex_unsigned_hex.ensures ∙ ap flat_next (x-digit c.args.src.now c.args.start c.requires c.byte_at-b.ensures c.if-b-eq45.false c.digit_value.ensures c.if-digit_value-lt-HEX_DIGITS.true)

pub returns : goal.returns
returns c = c.lex_word.ensures ∙ ap flat_next (x-word c.args.src.now c.args.start c.requires c.byte_at-b.ensures c.if-b-eq45.false c.digit_value.ensures c.if-digit_value-lt-HEX_DIGITS.false)
