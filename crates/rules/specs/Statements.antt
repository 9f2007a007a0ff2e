-- Section "Statements" of document 01: from tokens to statements, with refusals 13 to 16.
-- Comments and blank lines count for nothing: comments give no token, and newlines before a statement are passed over. Assumes nothing.
use Rattle.std.specs.Prelude.{ℕ, zero, suc, ◌+◌, ◌-◌, ◌*◌, ◌%◌, ◌≤◌, ◌<◌, Bool, true, false, ◌&&◌, ◌||◌, List, [], ◌∷◌, length, eqb, leb}
use Rattle.std.proofs.Math.Option.{Option, none, some}
use Rattle.rules.specs.Base.{when◌then◌else◌, Outcome, ok, refused, ◌>>=◌, refuse, ◌>>◌, require, Span, span, nowhere, has}
use Rattle.rules.specs.Capacities.{name_room}
use Rattle.rules.specs.Tokens.{Num, plus, minus, Kind, Token, number, register, mark, word, directive, text, next_token}
use Rattle.rules.specs.Words.{Range, signed, Field, reg, reg_or_imm, num, near, name, string, Op, Row, instructions, directives, find}

-- a label's text, in upper case, and its place
pub record Name : Type 0 where
  pub text : List ℕ
  pub place : Span

-- a label operand, and the field that it goes to
pub record Target : Type 0 where
  pub field : Range
  pub name : Name

-- what an operand adds to its statement: bits of the word, a label whose offset or address is to be added, or the characters of a string and its place
pub data Piece : Type 0 where
  bits : ℕ → Piece
  target : Target → Piece
  chars : List ℕ → Span → Piece

-- A statement: its labels; what it does; its word or number, as far as it is known; its label operand; its string, characters and place; its span.
pub record Stmt : Type 0 where
  pub labels : List Name
  pub op : Op
  pub bits : ℕ
  pub target : Option Target
  pub chars : List ℕ
  pub quote : Span
  pub place : Span

-- tokens by kind
unfoldable pub is_mark : ℕ → Kind → Bool
is_mark m (mark c) = eqb c m
is_mark m (number n) = false
is_mark m (register n) = false
is_mark m (word t) = false
is_mark m (directive t) = false
is_mark m (text t) = false

unfoldable pub as_number : Kind → Option Num
as_number (number n) = some n
as_number (register n) = none
as_number (mark c) = none
as_number (word t) = none
as_number (directive t) = none
as_number (text t) = none

unfoldable pub as_register : Kind → Option ℕ
as_register (register n) = some n
as_register (number n) = none
as_register (mark c) = none
as_register (word t) = none
as_register (directive t) = none
as_register (text t) = none

unfoldable pub as_word : Kind → Option (List ℕ)
as_word (word t) = some t
as_word (number n) = none
as_word (register n) = none
as_word (mark c) = none
as_word (directive t) = none
as_word (text t) = none

unfoldable pub as_directive : Kind → Option (List ℕ)
as_directive (directive t) = some t
as_directive (number n) = none
as_directive (register n) = none
as_directive (mark c) = none
as_directive (word t) = none
as_directive (text t) = none

unfoldable pub as_text : Kind → Option (List ℕ)
as_text (text t) = some t
as_text (number n) = none
as_text (register n) = none
as_text (mark c) = none
as_text (word t) = none
as_text (directive t) = none

-- A number is its whole number: each field has its range (`Words`, FIELDS), outside it 15. Negatives are kept modulo the field.
unfoldable pub in_range : Range → Num → Bool
in_range r (plus n) = leb n r.high
in_range r (minus n) = leb n r.low

unfoldable pub reduced : Range → Num → ℕ
reduced r (plus n) = n
reduced r (minus n) = (r.modulus - n) % r.modulus

unfoldable pub fit : Range → Num → Span → Outcome ℕ
fit r n p = when in_range r n then ok (reduced r n) else refuse 15 p

-- a word that is not reserved is a label token; above 64 bytes it is 16
unfoldable pub as_label : Kind → Option (List ℕ)
as_label k = elim (as_word k) [
  | none ↦ none
  | some t ↦ elim (find t instructions) [ none ↦ some t | some r ↦ none ]
]

unfoldable pub named : List ℕ → Span → Outcome Name
named t p = when leb (length t) name_room then ok (record { text = t; place = p }) else refuse 16 p

-- Where an operand is due and another kind of token or none stands there: 14, which goes before 15 and 16 at one token.
-- `other` is 14, or 13 after NOP: "NOP's operand may be left out and is then 0; a wrong token there is 13."
unfoldable pub need : {A B : Type 0} → Option A → ℕ → Span → (A → Outcome B) → Outcome B
need none other p f = refuse other p
need (some a) other p f = f a

-- Operands are those of `AsmInstr` and `Directive`; where these have a `PCOffset`, a number or a label.
unfoldable pub operand : Field → ℕ → Token → Outcome Piece
operand (reg m) other t = need (as_register t.kind) other t.place λ r. ok (bits (r * m))
operand (num r) other t = need (as_number t.kind) other t.place λ n. do
  b ← fit r n t.place
  ok (bits b)
operand reg_or_imm other t = elim (as_register t.kind) [
  | some r ↦ ok (bits r)
  | none ↦ need (as_number t.kind) other t.place λ n. do
    b ← fit (signed 5) n t.place
    ok (bits (32 + b))
]
operand (near r) other t = elim (as_number t.kind) [
  | some n ↦ do
    b ← fit r n t.place
    ok (bits b)
  | none ↦ need (as_label t.kind) other t.place λ w. do
    l ← named w t.place
    ok (target (record { field = r; name = l }))
]
operand (name r) other t = need (as_label t.kind) other t.place λ w. do
  l ← named w t.place
  ok (target (record { field = r; name = l }))
operand string other t = need (as_text t.kind) other t.place λ s. ok (chars s t.place)

-- a newline or the end of the source
unfoldable pub ends : Kind → Bool
ends k = is_mark 10 k || is_mark 0 k

-- FROM A PLACE. Tokens are read one at a time, each from a place of the source: `next_token`.

-- the token at a place passes a test
unfoldable pub token_is : (Kind → Bool) → List ℕ → ℕ → Bool
token_is p s i = elim (next_token s i) [ ok t ↦ p t.kind | refused r ↦ false ]

-- the place after it
unfoldable pub stop_at : List ℕ → ℕ → ℕ
stop_at s i = elim (next_token s i) [ ok t ↦ t.place.stop | refused r ↦ i ]

-- going on by a step while a test holds, at most k times; as many as bytes are left are enough: proofs/Walking `walk-on`, `walk-done`
unfoldable pub walk : (ℕ → Bool) → (ℕ → ℕ) → ℕ → ℕ → ℕ
walk p f zero i = i
walk p f (suc k) i = elim (p i) [ true ↦ walk p f k (f i) | false ↦ i ]

-- any newlines
unfoldable pub past_lines : List ℕ → ℕ → ℕ
past_lines s i = walk (token_is (is_mark 10) s) (stop_at s) (length s - i) i

-- an optional colon
unfoldable pub past_colon : List ℕ → ℕ → ℕ
past_colon s i = when token_is (is_mark 58) s i then stop_at s i else i

-- LABELS, each with an optional colon and any newlines after it

-- the label token's text and place
unfoldable pub as_name : Kind → Span → Option Name
as_name k p = elim (as_label k) [ none ↦ none | some t ↦ when leb (length t) name_room then some (record { text = t; place = p }) else none ]

unfoldable pub name_at : List ℕ → ℕ → Option Name
name_at s i = elim (next_token s i) [ ok t ↦ as_name t.kind t.place | refused r ↦ none ]

-- after newlines a label
unfoldable pub label_at : List ℕ → ℕ → Bool
label_at s i = has (name_at s (past_lines s i))

unfoldable pub past_label : List ℕ → ℕ → ℕ
past_label s i = past_colon s (stop_at s (past_lines s i))

-- any number of labels: the names, and where they end; as many steps as bytes are left are enough: proofs/Ahead `names-on`, `names-done`
unfoldable pub labels_from : ℕ → List ℕ → ℕ → List Name
labels_from zero s i = []
labels_from (suc k) s i = elim (name_at s (past_lines s i)) [ none ↦ [] | some n ↦ n ∷ labels_from k s (past_label s i) ]

unfoldable pub labels_at : List ℕ → ℕ → List Name
labels_at s i = labels_from (length s - i) s i

unfoldable pub past_labels : List ℕ → ℕ → ℕ
past_labels s i = walk (label_at s) (past_label s) (length s - i) i

-- OPERANDS

-- what operands give together, and the place after them
pub record Given : Type 0 where
  pub bits : ℕ
  pub target : Option Target
  pub chars : List ℕ
  pub quote : Span
  pub stop : ℕ

abbrev pub given : ℕ → Option Target → List ℕ → Span → ℕ → Given
given b t c q i = record { bits = b; target = t; chars = c; quote = q; stop = i }

-- before the first: the row's word
abbrev pub bare : ℕ → ℕ → Given
bare w i = given w none [] nowhere i

-- one operand more: at most one is a label, and at most one a string
unfoldable pub add : Given → Piece → ℕ → Given
add g (bits n) i = given (g.bits + n) g.target g.chars g.quote i
add g (target t) i = given g.bits (some t) g.chars g.quote i
add g (chars s q) i = given g.bits g.target s q i

unfoldable pub operand_at : List ℕ → Field → ℕ → Given → ℕ → Outcome Given
operand_at s f other g i = do
  t ← next_token s i
  p ← operand f other t
  ok (add g p t.place.stop)

-- comma-separated; every other misplaced token is 13
unfoldable pub comma_at : List ℕ → ℕ → Outcome ℕ
comma_at s i = do
  t ← next_token s i
  require (is_mark 44 t.kind) 13 t.place
  ok t.place.stop

-- the operands after the first
unfoldable pub more_from : List ℕ → List Field → ℕ → Given → Outcome Given
more_from s [] other g = ok g
more_from s (f ∷ fs) other g = do
  j ← comma_at s g.stop
  h ← operand_at s f other g j
  more_from s fs other h

unfoldable pub operands_from : List ℕ → List Field → ℕ → Given → Outcome Given
operands_from s [] other g = ok g
operands_from s (f ∷ fs) other g = do
  h ← operand_at s f other g g.stop
  more_from s fs other h

-- then newline or end
unfoldable pub line_end : List ℕ → ℕ → Outcome ℕ
line_end s i = do
  t ← next_token s i
  require (ends t.kind) 13 t.place
  ok t.place.stop

-- A STATEMENT, and where the next one begins
pub record Read : Type 0 where
  pub stmt : Stmt
  pub next : ℕ

abbrev pub read : Stmt → ℕ → Read
read s n = record { stmt = s; next = n }

-- what was read from a place on ends behind it, and not past the source
pub record GoesOn (s : List ℕ) (at : ℕ) (x : Read) : Type 0 where
  pub on : at < x.next
  pub in' : x.next ≤ length s

abbrev pub stmt : List Name → Op → Given → ℕ → Stmt
stmt ls o g start = record { labels = ls; op = o; bits = g.bits; target = g.target; chars = g.chars; quote = g.quote; place = span start g.stop }

-- A statement whose row is known, its first token and fields. A statement's span runs from its instruction or directive to its last operand.
unfoldable pub row_read : List ℕ → List Name → Row → Token → List Field → ℕ → Outcome (Option Read)
row_read s ls r t fs other = do
  g ← operands_from s fs other (bare r.base t.place.stop)
  n ← line_end s g.stop
  ok (some (read (stmt ls r.op g t.place.start) n))

-- NOP's operand may be left out and is then 0; a wrong token there is 13.
unfoldable pub instr_read : List ℕ → List Name → Row → Token → Outcome (Option Read)
instr_read s ls r t =
    when r.optional then row_read s ls r t (when token_is ends s t.place.stop then [] else r.fields) 13
    else row_read s ls r t r.fields 14

-- Every other misplaced token, an unknown directive, and labels with nothing after them: 13. Directives in any case: the token's text is in upper case.
-- A label here is longer than 64 bytes: 16.
unfoldable pub token_read : List ℕ → List Name → Token → Outcome (Option Read)
token_read s ls t = elim (as_directive t.kind) [
  | some d ↦ need (find d directives) 13 t.place (λ r. row_read s ls r t r.fields 14)
  | none ↦ elim (as_word t.kind) [
    | some w ↦ elim (find w instructions) [ some r ↦ instr_read s ls r t | none ↦ refuse 16 t.place ]
    | none ↦ when is_mark 0 t.kind && eqb (length ls) 0 then ok none else refuse 13 t.place
  ]
]

-- A statement is any number of labels, each with an optional colon and any newlines after it, then one instruction or directive.
-- `next_statement` reads the one that begins at a place or after it; none at the end of the source.
unfoldable pub next_statement : List ℕ → ℕ → Outcome (Option Read)
next_statement s i = do
  t ← next_token s (past_lines s (past_labels s i))
  token_read s (labels_at s i) t

-- all of them, at most k; as many as bytes are left and one are enough: proofs/Following `statements-on`, `statements-none`
unfoldable pub statements_from : ℕ → List ℕ → ℕ → Outcome (List Stmt)
statements_from zero s i = ok []
statements_from (suc k) s i = do
  m ← next_statement s i
  elim m [
    | none ↦ ok []
    | some r ↦ do
      ss ← statements_from k s r.next
      ok (r.stmt ∷ ss)
  ]

-- those from a place on, and all of a source: each takes a byte or more
unfoldable pub statements_at : List ℕ → ℕ → Outcome (List Stmt)
statements_at s i = statements_from (length s - i + 1) s i

unfoldable pub statements : List ℕ → Outcome (List Stmt)
statements s = statements_at s 0

unfoldable pub parsing : Unit {0}
unfolding instructions directives find is_mark as_number as_register as_word as_directive as_text in_range reduced fit as_label named need operand add ends token_is stop_at walk past_lines past_colon as_name name_at label_at past_label labels_from labels_at past_labels operand_at comma_at more_from operands_from line_end row_read instr_read token_read next_statement statements_from statements_at statements
parsing = tt
