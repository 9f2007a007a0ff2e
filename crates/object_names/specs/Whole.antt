-- Bytes that are one label token, by what the lexer answers. Assumes nothing.
use Rattle.std.specs.Prelude.{Bool, true, false, ◌&&◌, List, ℕ, eqb, length}
use Rattle.lex_reserved.specs.declared.Ident.{Ident}
use Rattle.lex_reserved.specs.declared.Ident.TheVariants as ident
use Rattle.lex_token.specs.declared.Token.{Token}
use Rattle.lex_token.specs.declared.Token.TheVariants as tok
use Rattle.lex_token.specs.declared.Next.{Next}
use Rattle.lex_token.specs.declared.Next.TheVariants.{Took, End, Refused}

abbrev pub is_label : Ident → Bool
is_label ident.Label = true
is_label (ident.Reserved k) = false

abbrev pub label_kind : Token → Bool
label_kind (tok.Ident i) = is_label i
label_kind (tok.Unsigned n) = false
label_kind (tok.Signed n) = false
label_kind (tok.Reg n) = false
label_kind tok.Directive = false
label_kind tok.String = false
label_kind tok.Colon = false
label_kind tok.Comma = false
label_kind tok.NewLine = false

-- the token is a label from the first byte to the last
abbrev pub whole_label : List ℕ → Next → Bool
whole_label l (Took t a e) = label_kind t && eqb a 0 && eqb e (length l)
whole_label l (End i) = false
whole_label l (Refused n a e) = false
