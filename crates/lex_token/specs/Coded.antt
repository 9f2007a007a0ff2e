-- The rules' answers as the code tells them. Assumes nothing.
use Rattle.std.specs.Prelude.{ℕ, ◌+◌, Bool, true, false, List, eqb, drop}
use Rattle.rules.specs.Base.{when◌then◌else◌, Outcome, ok, refused}
use Rattle.rules.specs.Tokens.{plus, minus, Kind, number, register, mark, word, directive, text, Match, Token, form}
use Rattle.rules.specs.Tokens as tokens
use Rattle.rules.proofs.Next.{here}
use Rattle.lex_reserved.specs.Ident.{ident_of}
use Rattle.lex_token.specs.declared.Token.TheVariants.{Unsigned, Signed, Reg, Ident, Directive, String, Colon, Comma, NewLine}
use Rattle.lex_token.specs.declared.Form.{Form}
use Rattle.lex_token.specs.declared.Next.{Next}
use Rattle.lex_token.specs.declared.Next.TheVariants.{Took, End, Refused}

-- a mark: 0 is the end of the source
unfoldable pub marked : (c a e : ℕ) → Next
marked c a e = when eqb c 0 then End a else when eqb c 58 then Took Colon a e else when eqb c 44 then Took Comma a e else Took NewLine a e

unfoldable pub coded_as : Kind → (a e : ℕ) → Next
coded_as (number (plus n)) a e = Took (Unsigned n) a e
coded_as (number (minus n)) a e = Took (Signed n) a e
coded_as (register n) a e = Took (Reg n) a e
coded_as (mark c) a e = marked c a e
coded_as (word w) a e = Took (Ident (ident_of w)) a e
coded_as (directive w) a e = Took Directive a e
coded_as (text t) a e = Took String a e

-- a token with its span, the end of the source, or a refusal
unfoldable pub coded : Outcome Token → Next
coded (ok t) = coded_as t.kind t.place.start t.place.stop
coded (refused r) = Refused r.number r.first.start r.first.stop

-- what a match at a place of the source is to the code
unfoldable pub told : List ℕ → ℕ → Match → Next
told s start m = coded (here start m (drop (start + 1) s))

unfoldable pub signed_kind : Bool → ℕ → Kind
signed_kind true n = number (minus n)
signed_kind false n = number (plus n)

-- the code's form of a number as the rules'
unfoldable pub form_of : Form → tokens.Form
form_of f = form (λ n. signed_kind f.signed n) f.base f.bound f.wrong f.over f.none
