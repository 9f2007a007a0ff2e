-- `lex::token_at` meets its contract. Assumes nothing.
use mathlib.Core.Path.{sym, ◌∙◌, ap}
use Rattle.lex_token.specs.Flat.{flat_next}
use Rattle.lex.proofs.First.{told-digit, told-hash, told-minus, told-other}
use Rattle.lex.proofs.token_at.Goals as goal

pub lex_letter-requires : goal.lex_letter-requires
lex_letter-requires c = (c.requires.0, sym c.is_letter.ensures ∙ c.if-is_letter.true)

pub returns-then-is_digit : goal.returns-then-is_digit
returns-then-is_digit c = c.lex_unsigned_dec.ensures ∙ ap flat_next (told-digit c.args.src.now c.args.start c.requires.0 (sym c.is_digit.ensures ∙ c.if-is_digit.true))

pub returns-then-b-eq35 : goal.returns-then-b-eq35
returns-then-b-eq35 c = c.lex_hash.ensures ∙ ap flat_next (told-hash c.args.src.now c.args.start c.requires.0 c.if-b-eq35.true)

pub returns-then-b-eq45 : goal.returns-then-b-eq45
returns-then-b-eq45 c = c.lex_minus.ensures ∙ ap flat_next (told-minus c.args.src.now c.args.start c.requires.0 c.if-b-eq45.true)

pub returns : goal.returns
returns c = c.lex_other.ensures ∙ ap flat_next (told-other c.args.src.now c.args.start c.requires.0 (sym c.is_letter.ensures ∙ c.if-is_letter.false) (sym c.is_digit.ensures ∙ c.if-is_digit.false) c.if-b-eq35.false c.if-b-eq45.false)
