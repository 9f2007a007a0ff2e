-- What the code's answers mean in the rules. Assumes nothing.
use Rattle.std.specs.Prelude.{ℕ, ◌+◌, ◌-◌, false, List, map, take, drop}
use Rattle.rules.specs.Base.{Outcome, ok, refuse, span}
use Rattle.rules.specs.Tokens.{plus, minus, Kind, number, register, mark, word, directive, text, upper, quoted, line, token_in}
use Rattle.rules.specs.Tokens as tokens
use Rattle.rules.proofs.Shown.{chars}
use Rattle.lex_token.specs.declared.Token.{Token}
use Rattle.lex_token.specs.declared.Token.TheVariants.{Unsigned, Signed, Reg, Ident, Directive, String, Colon, Comma, NewLine}
use Rattle.lex_token.specs.declared.Next.{Next}
use Rattle.lex_token.specs.declared.Next.TheVariants.{Took, End, Refused}

-- the bytes of the source from a up to e
unfoldable pub part : List ℕ → (a e : ℕ) → List ℕ
part s a e = take (e - a) (drop a s)

-- a token from a up to e: a word and a directive are their bytes in upper case, a string is its characters
unfoldable pub kind_at : List ℕ → (a e : ℕ) → Token → Kind
kind_at s a e (Unsigned n) = number (plus n)
kind_at s a e (Signed n) = number (minus n)
kind_at s a e (Reg n) = register n
kind_at s a e (Ident i) = word (map upper (part s a e))
kind_at s a e Directive = directive (map upper (part s (a + 1) e))
kind_at s a e String = text (chars (quoted false (line (drop (a + 1) s))))
kind_at s a e Colon = mark 58
kind_at s a e Comma = mark 44
kind_at s a e NewLine = mark 10

unfoldable pub meant : List ℕ → Next → Outcome tokens.Token
meant s (Took t a e) = ok (token_in (kind_at s a e t) (span a e))
meant s (End i) = ok (token_in (mark 0) (span i i))
meant s (Refused n a e) = refuse n (span a e)
