-- A token as four numbers. Assumes nothing.
use Rattle.std.specs.Prelude.{ℕ, zero, suc, ◌≤◌}
use Rattle.lex_reserved.specs.declared.Ident.{Ident}
use Rattle.lex_reserved.specs.declared.Ident.TheVariants.{Reserved, Label}
use Rattle.lex_token.specs.declared.Token.{Token}
use Rattle.lex_token.specs.declared.Token.TheVariants.{Unsigned, Signed, Reg, Directive, String, Colon, Comma, NewLine}
use Rattle.lex_token.specs.declared.Token.TheVariants as tok
use Rattle.lex_token.specs.declared.Next.{Next}
use Rattle.lex_token.specs.declared.Next.TheVariants.{Took, End, Refused}
use Rattle.lex_token.specs.declared.Lexeme.{Lexeme}

abbrev pub lexeme : (sort value start end : ℕ) → Lexeme
lexeme k v a e = record { sort = k; value = v; start = a; end = e }

-- the sort of a refusal, behind those of the tokens
abbrev pub fault_sort : ℕ
fault_sort = 11

abbrev pub flat_ident : Ident → (start end : ℕ) → Lexeme
flat_ident (Reserved k) a e = lexeme 5 k a e
flat_ident Label a e = lexeme 3 0 a e

abbrev pub flat_token : Token → (start end : ℕ) → Lexeme
flat_token (Unsigned n) a e = lexeme 0 n a e
flat_token (Signed n) a e = lexeme 1 n a e
flat_token (Reg n) a e = lexeme 2 n a e
flat_token (tok.Ident i) a e = flat_ident i a e
flat_token String a e = lexeme 4 0 a e
flat_token Directive a e = lexeme 6 0 a e
flat_token Colon a e = lexeme 7 0 a e
flat_token Comma a e = lexeme 8 0 a e
flat_token NewLine a e = lexeme 9 0 a e

abbrev pub flat_next : Next → Lexeme
flat_next (Took t a e) = flat_token t a e
flat_next (End i) = lexeme 10 0 i i
flat_next (Refused n a e) = lexeme fault_sort n a e

-- and back, by the sort
abbrev pub next_by : ℕ → Lexeme → Next
next_by zero t = Took (Unsigned t.value) t.start t.end
next_by (suc zero) t = Took (Signed t.value) t.start t.end
next_by (suc (suc zero)) t = Took (Reg t.value) t.start t.end
next_by (suc (suc (suc zero))) t = Took (tok.Ident Label) t.start t.end
next_by (suc (suc (suc (suc zero)))) t = Took String t.start t.end
next_by (suc (suc (suc (suc (suc zero))))) t = Took (tok.Ident (Reserved t.value)) t.start t.end
next_by (suc (suc (suc (suc (suc (suc zero)))))) t = Took Directive t.start t.end
next_by (suc (suc (suc (suc (suc (suc (suc zero))))))) t = Took Colon t.start t.end
next_by (suc (suc (suc (suc (suc (suc (suc (suc zero)))))))) t = Took Comma t.start t.end
next_by (suc (suc (suc (suc (suc (suc (suc (suc (suc zero))))))))) t = Took NewLine t.start t.end
next_by (suc (suc (suc (suc (suc (suc (suc (suc (suc (suc zero)))))))))) t = End t.start
next_by (suc (suc (suc (suc (suc (suc (suc (suc (suc (suc (suc k))))))))))) t = Refused t.value t.start t.end

unfoldable pub next_of : Lexeme → Next
next_of t = next_by t.sort t

-- a sort that there is, and but for a number's size a value of one byte
pub record Narrow (t : Lexeme) : Type 0 where
  pub known : t.sort ≤ fault_sort
  pub small : 2 ≤ t.sort → t.value ≤ 255
