-- What is told of a token's four numbers is what is told of the token. Assumes nothing.
use Prim.Native.Nat.{ℕ}
use mathlib.Core.Path.{◌≡◌, refl}
use borrow.Author.Tests.{eq-eqb, ne_eqb}
use Rattle.rules.specs.Base.{when◌then◌else◌, span}
use Rattle.lex_token.specs.declared.Lexeme.{Lexeme}
use Rattle.lex_reserved.specs.declared.Ident.TheVariants.{Reserved, Label}
use Rattle.lex_token.specs.declared.Token.TheVariants.{Unsigned, Signed, Reg, Directive, String, Colon, Comma, NewLine}
use Rattle.lex_token.specs.declared.Token.TheVariants as tok
use Rattle.lex_token.specs.declared.Next.{Next}
use Rattle.lex_token.specs.declared.Next.TheVariants.{Took, End, Refused}
use Rattle.lex_token.specs.Flat.{lexeme, fault_sort, flat_next}
use Rattle.lc3_answers.specs.declared.Reply.{Reply}
use Rattle.lc3_answers.specs.Told.{reply, refused_at, token_told, next_told, lexeme_told}

pub lexeme-told : (n : Next) → lexeme_told (flat_next n) ≡ next_told n
unfolding when◌then◌else◌
lexeme-told (Took (Unsigned n) a e) = refl
lexeme-told (Took (Signed n) a e) = refl
lexeme-told (Took (Reg n) a e) = refl
lexeme-told (Took (tok.Ident (Reserved k)) a e) = refl
lexeme-told (Took (tok.Ident Label) a e) = refl
lexeme-told (Took String a e) = refl
lexeme-told (Took Directive a e) = refl
lexeme-told (Took Colon a e) = refl
lexeme-told (Took Comma a e) = refl
lexeme-told (Took NewLine a e) = refl
lexeme-told (End i) = refl
lexeme-told (Refused n a e) = refl

module _ (t : Lexeme) {n : ℕ} {r : Reply} (q : n ≡ t.value) where
  pub fault-told : t.sort ≡ fault_sort → r ≡ reply (refused_at n (span t.start t.end)) → r ≡ reply (lexeme_told t)
  unfolding when◌then◌else◌
  fault-told e p = rw (eq-eqb t.sort fault_sort e, ← q) p

  pub good-told : {k : ℕ} → (t.sort ≡ fault_sort → ⊥) → k ≡ t.sort → r ≡ reply (token_told (lexeme k n t.start t.end)) → r ≡ reply (lexeme_told t)
  unfolding when◌then◌else◌
  good-told e l p = rw (ne_eqb t.sort fault_sort e, ← q, ← l) p
