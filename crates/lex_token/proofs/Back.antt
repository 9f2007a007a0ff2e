-- A lexeme of a sort stands for its answer, and what the lexer tells goes there and back. Assumes nothing.
use Prim.Native.Nat.{ℕ, ◌+◌, ◌≤◌}
use mathlib.Core.Path.{◌≡◌, refl, sym, ap}
use native.Mathlib.Omega.{arith}
use Rattle.lex_reserved.specs.declared.Ident.TheVariants.{Reserved, Label}
use Rattle.lex_token.specs.declared.Token.TheVariants.{Unsigned, Signed, Reg, Directive, String, Colon, Comma, NewLine}
use Rattle.lex_token.specs.declared.Token.TheVariants as tok
use Rattle.lex_token.specs.declared.Next.{Next}
use Rattle.lex_token.specs.declared.Next.TheVariants.{Took, End, Refused}
use Rattle.lex_token.specs.declared.Lexeme.{Lexeme}
use Rattle.lex_token.specs.Flat.{flat_next, next_by, next_of, Narrow}

module _ (t : Lexeme) where
  pub by-sort : (k : ℕ) → t.sort ≡ k → next_by k t ≡ next_of t
  unfolding next_of
  by-sort k e = sym (ap (λ (j : ℕ). next_by j t) e)

  pub value-small : Narrow t → (k : ℕ) → t.sort ≡ k → 2 ≤ k → t.value ≤ 255
  value-small n k e l = n.small (omega arith)

past : {j k : ℕ} → j ≤ k → (k ≡ j → ⊥) → j + 1 ≤ k
past l n = omega arith

last : {k : ℕ} → k ≤ 11 → 11 ≤ k → k ≡ 11
last a b = omega arith

-- the sort that is left
pub last-sort : (k : ℕ) → k ≤ 11 → (k ≡ 0 → ⊥) → (k ≡ 1 → ⊥) → (k ≡ 2 → ⊥) → (k ≡ 3 → ⊥) → (k ≡ 4 → ⊥) → (k ≡ 5 → ⊥) → (k ≡ 6 → ⊥) → (k ≡ 7 → ⊥) → (k ≡ 8 → ⊥) → (k ≡ 9 → ⊥) → (k ≡ 10 → ⊥) → k ≡ 11
last-sort k l n0 n1 n2 n3 n4 n5 n6 n7 n8 n9 n10 = last l (past (past (past (past (past (past (past (past (past (past (past (omega arith) n0) n1) n2) n3) n4) n5) n6) n7) n8) n9) n10)

-- no answer is lost on the way
pub there_and_back : (n : Next) → next_of (flat_next n) ≡ n
unfolding next_of
there_and_back (Took (Unsigned n) a e) = refl
there_and_back (Took (Signed n) a e) = refl
there_and_back (Took (Reg n) a e) = refl
there_and_back (Took (tok.Ident (Reserved k)) a e) = refl
there_and_back (Took (tok.Ident Label) a e) = refl
there_and_back (Took String a e) = refl
there_and_back (Took Directive a e) = refl
there_and_back (Took Colon a e) = refl
there_and_back (Took Comma a e) = refl
there_and_back (Took NewLine a e) = refl
there_and_back (End i) = refl
there_and_back (Refused n a e) = refl
