-- `lex::lex_r` meets its contract. Assumes nothing.
use Prim.Native.Nat.{ℕ, ◌+◌}
use mathlib.Core.Path.{◌∙◌, ap}
use Rattle.lex_token.specs.Flat.{flat_next, lexeme}
use Rattle.lex.proofs.Told.{r-short, r-alone, r-word, r-reg}
use Rattle.lex.proofs.lex_r.Goals as goal

pub returns-then-number-lt-NO_REGISTER : goal.returns-then-number-lt-NO_REGISTER
returns-then-number-lt-NO_REGISTER c = c.flat.ensures ∙ ap (λ (k : ℕ). lexeme 2 k c.args.start (c.args.start + 2)) c.from.ensures ∙ ap flat_next (r-short c.args.src.now c.args.start c.requires c.short_register-number.ensures c.if-number-lt-NO_REGISTER.true)

pub returns-then-end-next : goal.returns-then-end-next
returns-then-end-next c = c.lex_word.ensures ∙ ap flat_next (r-alone c.args.src.now c.args.start c.requires c.run_end-end.ensures c.if-end-next.true)

pub returns-then-is_word : goal.returns-then-is_word
returns-then-is_word c = c.lex_word-then-is_word.ensures ∙ ap flat_next (r-word c.args.src.now c.args.start c.requires c.run_end-end.ensures c.if-end-next.false c.byte_at.ensures c.is_word.ensures c.if-is_word.true)

pub returns : goal.returns
returns c = c.lex_reg.ensures ∙ ap flat_next (r-reg c.args.src.now c.args.start c.requires c.run_end-end.ensures c.if-end-next.false c.byte_at.ensures c.is_word.ensures c.if-is_word.false)
