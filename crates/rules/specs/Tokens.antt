-- Section "Tokens" of document 01: the longest match of the patterns in lex.rs, over ASCII, read by hand.
-- `Patterns` has the patterns themselves, and the page of promises the theorem that both are one reading. Assumes nothing.
use Rattle.std.specs.Prelude.{ℕ, zero, suc, ◌+◌, ◌-◌, ◌*◌, Bool, true, false, ◌&&◌, ◌||◌, not, List, [], ◌∷◌, ◌++◌, map, length, drop, eqb, leb, ltb}
use Rattle.rules.specs.Base.{when◌then◌else◌, Outcome, ok, ◌>>=◌, ◌>>◌, require, refuse, Span, span, is, within}
use Rattle.rules.specs.Capacities.{source_room}

-- a number as written: its sign and size
pub data Num : Type 0 where
  plus minus : ℕ → Num

-- what a token is; a mark is `:` `,` or a newline, by its byte, or 0, the end of the source
pub data Kind : Type 0 where
  number : Num → Kind
  register mark : ℕ → Kind
  word directive text : List ℕ → Kind

-- what the longest match is. Spaces and tabs are skipped, and comments: they are blank. bad n is refused with n, 1 to 10.
pub data Found : Type 0 where
  token : Kind → Found
  blank : Found
  bad : ℕ → Found

-- a match, and how many bytes long it is
pub record Match : Type 0 where
  pub found : Found
  pub size : ℕ

abbrev pub match : Found → ℕ → Match
match f n = record { found = f; size = n }

-- the classes \d, letters with the underscore, \w, and blanks
unfoldable pub digit : ℕ → Bool
digit c = within "0" "9" c

unfoldable pub letter : ℕ → Bool
letter c = within "A" "Z" c || within "a" "z" c || is "_" c

unfoldable pub wordy : ℕ → Bool
wordy c = digit c || letter c

unfoldable pub space : ℕ → Bool
space c = is " " c || is "\t" c

-- words are matched in upper case
unfoldable pub upper : ℕ → ℕ
upper c = when within "a" "z" c then c - 32 else c

-- a digit's value, of ten or sixteen; 99 of any other byte
unfoldable pub value : ℕ → ℕ
value c =
    when digit c then c - 48
    else when within "A" "F" (upper c) then upper c - 55
    else 99

-- the longest beginning whose bytes all pass a test
unfoldable pub while : (ℕ → Bool) → List ℕ → List ℕ
while p [] = []
while p (c ∷ s) = elim (p c) [ true ↦ c ∷ while p s | false ↦ [] ]

-- the list begins with a byte that passes a test
unfoldable pub begins : (ℕ → Bool) → List ℕ → Bool
begins p [] = false
begins p (c ∷ s) = p c

-- how a number is written: its kind, base and bound, and the refusals of a wrong digit, an overflow and no digit
pub record Form : Type 0 where
  pub kind : ℕ → Kind
  pub base : ℕ
  pub bound : ℕ
  pub wrong : ℕ
  pub over : ℕ
  pub none : ℕ

abbrev pub form : (ℕ → Kind) → (base bound wrong over none : ℕ) → Form
form k b m w o n = record { kind = k; base = b; bound = m; wrong = w; over = o; none = n }

unfoldable pub dec : Form
dec = form (λ n. number (plus n)) 10 65535 4 1 6

unfoldable pub dec_neg : Form
dec_neg = form (λ n. number (minus n)) 10 32768 4 2 6

unfoldable pub hex : Form
hex = form (λ n. number (plus n)) 16 65535 3 1 5

unfoldable pub hex_neg : Form
hex_neg = form (λ n. number (minus n)) 16 32768 3 2 5

unfoldable pub reg : Form
reg = form register 10 7 9 9 9

-- A number is read left to right; at each character a wrong digit is refused before an overflow is.
unfoldable pub digits : Form → ℕ → List ℕ → Found
digits f n [] = token (f.kind n)
digits f n (c ∷ s) =
    when leb f.base (value c) then bad f.wrong
    else when ltb f.bound (n * f.base + value c) then bad f.over
    else digits f (n * f.base + value c) s

unfoldable pub read : Form → List ℕ → Found
read f [] = bad f.none
read f (c ∷ s) = digits f 0 (c ∷ s)

-- a prefix of n bytes, then a number: as many word characters as there are. `x1G` is 3; `#` alone and `-` alone are 6, `x-` is 5;
-- `9999g` is 4, `99999g` is 1.
unfoldable pub number_after : ℕ → Form → List ℕ → Match
number_after n f s = let r = while wordy s in match (read f r) (n + length r)

-- a prefix that no number has, then word characters: `##5` and `-#5` are 4
unfoldable pub wrong_after : ℕ → List ℕ → Match
wrong_after n s = match (bad 4) (n + length (while wordy s))

-- a word: a label or a reserved word
unfoldable pub word_at : List ℕ → Match
word_at s = let r = while wordy s in match (token (word (map upper r))) (length r)

-- a directive after its dot
unfoldable pub directive_after : List ℕ → Match
directive_after s = let r = while wordy s in match (token (directive (map upper r))) (1 + length r)

-- #\w*  #-\w*  ##+-?\w*
unfoldable pub after_hash : List ℕ → Match
after_hash s =
    let h = length (while (is "#") s) in
    when begins (is "-") s then number_after 2 dec_neg (drop 1 s)
    else when eqb h 0 then number_after 1 dec s
    else when begins (is "-") (drop h s) then wrong_after (h + 2) (drop (h + 1) s)
    else wrong_after (h + 1) (drop h s)

-- -\w*  -#+\w*
unfoldable pub after_minus : List ℕ → Match
after_minus s =
    let h = length (while (is "#") s) in
    when eqb h 0 then number_after 1 dec_neg s
    else wrong_after (h + 1) (drop h s)

-- [Xx][\dA-Fa-f]\w*  [Xx]-\w*, and else a word: `x` or `xyz` is a word
unfoldable pub after_x : ℕ → List ℕ → Match
after_x c s =
    when begins (is "-") s then number_after 2 hex_neg (drop 1 s)
    else when begins (λ d. ltb (value d) 16) s then number_after 1 hex s
    else word_at (c ∷ s)

-- [Rr]\d+ where no more word characters follow, and else a word: `R8` is 9, `R8x` is a word, `R007` is register 7
unfoldable pub after_r : ℕ → List ℕ → Match
after_r c s =
    when begins digit s && not (begins wordy (drop (length (while digit s)) s)) then number_after 1 reg s
    else word_at (c ∷ s)

-- a line's rest: to end of line, before LF or CR LF
unfoldable pub line : List ℕ → List ℕ
line [] = []
line (c ∷ s) =
    elim (is "\n" c || (is "\r" c && begins (is "\n") s)) [ true ↦ [] | false ↦ c ∷ line s ]

-- In a string `\n \r \t \\ \0 \"` stand for one character; before any other character the backslash stays.
unfoldable pub escape : ℕ → List ℕ
escape c =
    when is "n" c then 10 ∷ []
    else when is "r" c then 13 ∷ []
    else when is "t" c then 9 ∷ []
    else when is "0" c then 0 ∷ []
    else when is "\\" c || is "\"" c then c ∷ []
    else 92 ∷ c ∷ []

-- a string after its quote: it has no end, or these characters and this many bytes, its end quote among them
pub data Quoted : Type 0 where
  open' : Quoted
  closed : List ℕ → ℕ → Quoted

unfoldable pub put : List ℕ → Quoted → Quoted
put t open' = open'
put t (closed u n) = closed (t ++ u) (1 + n)

-- the Bool: the byte before was a backslash
unfoldable pub quoted : Bool → List ℕ → Quoted
quoted b [] = open'
quoted true (c ∷ s) = put (escape c) (quoted false s)
quoted false (c ∷ s) =
    when is "\"" c then closed [] 1
    else when is "\\" c then put [] (quoted true s)
    else put (c ∷ []) (quoted false s)

-- 7: quote to end of line. At most 65,534 characters result, else 8.
unfoldable pub after_quote : List ℕ → Match
after_quote s =
    elim (quoted false (line s)) [
      | open' ↦ match (bad 7) (1 + length (line s))
      | closed t n ↦ match (when leb (length t) 65534 then token (text t) else bad 8) (1 + n)
    ]

-- The token that begins with the byte c and goes on in s. A comment runs to the line feed, a carriage return included;
-- elsewhere, but in a string, a carriage return without a line feed is 10.
unfoldable pub token_at : ℕ → List ℕ → Match
token_at c s =
    when digit c then number_after 0 dec (c ∷ s)
    else when is "#" c then after_hash s
    else when is "-" c then after_minus s
    else when is "X" (upper c) then after_x c s
    else when is "R" (upper c) then after_r c s
    else when letter c then word_at (c ∷ s)
    else when is "." c then directive_after s
    else when is "\"" c then after_quote s
    else when is ":" c then match (token (mark c)) 1
    else when is "," c then match (token (mark c)) 1
    else when is ";" c then match blank (1 + length (while (λ d. not (is "\n" d)) s))
    else when is "\n" c then match (token (mark c)) 1
    else when is "\r" c && begins (is "\n") s then match (token (mark 10)) 2
    else when space c then match blank (1 + length (while space s))
    else match (bad 10) 1

-- a token and its place
pub record Token : Type 0 where
  pub kind : Kind
  pub place : Span

abbrev pub token_in : Kind → Span → Token
token_in k p = record { kind = k; place = p }

-- where the refusal of a match at offset i stands: at the token, which of 10 is one byte and of 7 goes to the end of the line
abbrev pub blame : ℕ → Match → Span
blame i m = span i (i + m.size)

-- what a match gives: a token at p, nothing, or a refusal at q
unfoldable pub kept : Found → Span → Span → Outcome (List Token)
kept (token k) p q = ok (token_in k p ∷ [])
kept blank p q = ok []
kept (bad n) p q = refuse n q

-- The tokens of a source's rest that begins at offset i, of which k bytes belong to a token already read; the last is the source's end.
unfoldable pub tokens_from : ℕ → ℕ → List ℕ → Outcome (List Token)
tokens_from k i [] = ok (token_in (mark 0) (span i i) ∷ [])
tokens_from (suc k) i (c ∷ s) = tokens_from k (i + 1) s
tokens_from zero i (c ∷ s) = do
  let m = token_at c s
  t ← kept m.found (span i (i + m.size)) (blame i m)
  ts ← tokens_from (m.size - 1) (i + 1) s
  ok (t ++ ts)

unfoldable pub tokens : List ℕ → Outcome (List Token)
tokens s = tokens_from 0 0 s

-- The first of these tokens: what stands at offset i or, past spaces, tabs and comments, after it.
unfoldable pub next_from : ℕ → ℕ → List ℕ → Outcome Token
next_from k i [] = ok (token_in (mark 0) (span i i))
next_from (suc k) i (c ∷ s) = next_from k (i + 1) s
next_from zero i (c ∷ s) =
    let m = token_at c s in
    elim m.found [
      | token k ↦ ok (token_in k (span i (i + m.size)))
      | blank ↦ next_from (m.size - 1) (i + 1) s
      | bad n ↦ refuse n (blame i m)
    ]

unfoldable pub next_token : List ℕ → ℕ → Outcome Token
next_token s i = next_from 0 i (drop i s)

-- 12: the first byte above x7F
unfoldable pub ascii : ℕ → List ℕ → Outcome (Unit {0})
ascii i [] = ok tt
ascii i (c ∷ s) = do
  require (ltb c 128) 12 (span i (i + 1))
  ascii (i + 1) s

-- Order in assembling: 11, 12, then lexical refusals
unfoldable pub lexed : List ℕ → Outcome (List Token)
lexed s = do
  require (leb (length s) source_room) 11 (span 0 (length s))
  ascii 0 s
  tokens s

-- whoever unfolds `lexing` unfolds every definition of this module
unfoldable pub lexing : Unit {0}
unfolding when◌then◌else◌ digit letter wordy space upper value while begins dec dec_neg hex hex_neg reg digits read number_after wrong_after word_at directive_after after_hash after_minus after_x after_r line escape put quoted after_quote token_at kept tokens_from tokens next_from next_token ascii lexed
lexing = tt
