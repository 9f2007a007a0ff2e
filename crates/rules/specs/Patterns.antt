-- Section "Tokens" of document 01: the longest match of the patterns of lex.rs, as a table with a row for each pattern, in its order.
-- `LongestMatch` says what the longest match is; `tokens_by` reads a source by the table. Assumes nothing.
use Rattle.std.specs.Prelude.{ℕ, zero, suc, ◌+◌, ◌-◌, ◌≤◌, ◌<◌, true, false, ◌||◌, not, ◌≡◌, length, take, drop, ltb}
use Prim.Native.Char.{Char}
use mathlib.Core.List.{List, [], ◌∷◌, ◌++◌, map, Memᴰ}
use Rattle.std.proofs.Math.Option.{none, some}
use Rattle.rules.specs.Base.{Outcome, ok, ◌>>=◌, span, is, within}
use Rattle.rules.specs.Regex.{Regex, empty, byte, ◌then◌, ◌or◌, star, Matches, longest}
use Rattle.rules.specs.Tokens.{Found, token, blank, bad, Match, match, mark, word, directive, digit, letter, wordy, space, upper, dec, dec_neg, hex, hex_neg, reg, read, after_quote, Token, token_in, kept, blame}

-- the classes and repeats that lex.rs writes
abbrev pub c1 : Char → Regex
c1 k = byte (is k)

abbrev pub or1 : Char → Char → Regex
or1 k l = byte (λ c. is k c || is l c)

abbrev pub d : Regex
d = byte digit

abbrev pub w* : Regex
w* = star (byte wordy)

abbrev pub maybe : Regex → Regex
maybe r = empty or r

abbrev pub some1 : Regex → Regex
some1 r = r then star r

-- a pattern, and what its match is, from the matched bytes and the rest
pub record Row : Type 0 where
  pub pattern : Regex
  pub make : List ℕ → List ℕ → Match

abbrev row : Regex → (List ℕ → Found) → Row
row r f = record { pattern = r; make = λ m s. match (f m) (length m) }

-- Above each row stands its line of lex.rs. At equal length the row declared first wins, as a generator of lexers has it; document 01 says so
-- where two rows do tie: "At equal length a number or register goes before a word."
unfoldable pub patterns : List Row
patterns =
    -- #[logos(skip r"[ \t]+", error = LexErr)]
    row (some1 (byte space)) (λ m. blank)
    -- #[regex(r"\d\w*", lex_unsigned_dec)]
    ∷ row (d then w*) (λ m. read dec m)
    -- #[regex(r"#\d?\w*", lex_unsigned_dec)]
    ∷ row (c1 "#" then maybe d then w*) (λ m. read dec (drop 1 m))
    -- #[regex(r"[Xx][\dA-Fa-f]\w*", lex_unsigned_hex)]
    ∷ row (or1 "X" "x" then byte (λ c. digit c || within "A" "F" c || within "a" "f" c) then w*) (λ m. read hex (drop 1 m))
    -- #[regex(r"-\w*", lex_signed_dec)]
    ∷ row (c1 "-" then w*) (λ m. read dec_neg (drop 1 m))
    -- #[regex(r"#-\w*", lex_signed_dec)]
    ∷ row (c1 "#" then c1 "-" then w*) (λ m. read dec_neg (drop 2 m))
    -- #[regex(r"-#+\w*", lex_signed_dec)] // always errors
    ∷ row (c1 "-" then some1 (c1 "#") then w*) (λ m. bad 4)
    -- #[regex(r"##+-?\w*", lex_signed_dec)] // always errors
    ∷ row (c1 "#" then some1 (c1 "#") then maybe (c1 "-") then w*) (λ m. bad 4)
    -- #[regex(r"[Xx]-\w*", lex_signed_hex)]
    ∷ row (or1 "X" "x" then c1 "-" then w*) (λ m. read hex_neg (drop 2 m))
    -- #[regex(r"[Rr]\d+", lex_reg)]
    ∷ row (or1 "R" "r" then some1 d) (λ m. read reg (drop 1 m))
    -- #[regex(r"[A-Za-z_]\w*", |lx| lx.slice().parse::<Ident>().expect("should be infallible"))]
    ∷ row (byte letter then w*) (λ m. token (word (map upper m)))
    -- #[regex(r"\.\w*", |lx| lx.slice()[1..].to_string())]
    ∷ row (c1 "." then w*) (λ m. token (directive (map upper (drop 1 m))))
    -- #[token(r#"""#, lex_str_literal)]
    ∷ record { pattern = c1 "\""; make = λ m s. after_quote s }
    -- #[token(":")]
    ∷ row (c1 ":") (λ m. token (mark 58))
    -- #[token(",")]
    ∷ row (c1 ",") (λ m. token (mark 44))
    -- #[regex(r";.*")]
    ∷ row (c1 ";" then star (byte (λ c. not (is "\n" c)))) (λ m. blank)
    -- #[regex(r"\r?\n")]
    ∷ row (maybe (c1 "\r") then c1 "\n") (λ m. token (mark 10))
    ∷ []

-- one of these rows
infix 5 ◌∈◌
abbrev pub ◌∈◌ : Row → List Row → Type 0
r ∈ rs = Memᴰ r rs

-- the row's pattern matches t, and s is t and a rest
pub record Begins (s : List ℕ) (r : Row) (t : List ℕ) : Type 0 where
  pub rest : List ℕ
  pub whole : s ≡ t ++ rest
  pub matches : Matches r.pattern t

-- m is what a row of the table makes of its match at the front of s, and no row has a better one
pub record Winner (rows : List Row) (s : List ℕ) (m : Match) : Type 0 where
  -- the row, between those that are declared before it and after it
  pub earlier : List Row
  pub winner : Row
  pub later : List Row
  pub placed : rows ≡ earlier ++ (winner ∷ later)
  -- its match, of one byte or more
  pub matched : List ℕ
  pub begins : Begins s winner matched
  pub nonempty : 1 ≤ length matched
  pub made : m ≡ winner.make matched begins.rest
  -- "the longest match": no match of any row is longer
  pub longest : (r : Row) → r ∈ rows → (t : List ℕ) → Begins s r t → length t ≤ length matched
  -- "at equal length": every match of an earlier row is shorter
  pub first : (r : Row) → r ∈ earlier → (t : List ℕ) → Begins s r t → length t < length matched

-- m is the longest match at the front of s: a row wins, or none matches a byte or more, and then one byte is refused with 10, InvalidSymbol
pub data LongestOf (rows : List Row) (s : List ℕ) (m : Match) : Type 0 where
  wins : Winner rows s m → LongestOf rows s m
  none-matches : ((r : Row) → r ∈ rows → (t : List ℕ) → Begins s r t → length t ≡ 0) → m ≡ match (bad 10) 1 → LongestOf rows s m

-- "The longest match of the patterns in lex.rs"
abbrev pub LongestMatch : List ℕ → Match → Type 0
LongestMatch = LongestOf patterns

-- the same computed, row by row: n bytes are the most so far, and m is what they make
unfoldable pub best : List Row → ℕ → Match → List ℕ → Match
best [] n m s = m
best (r ∷ rs) n m s = elim (longest r.pattern s) [
  | none ↦ best rs n m s
  | some k ↦ elim (ltb n k) [ true ↦ best rs k (r.make (take k s) (drop k s)) s | false ↦ best rs n m s ]
]

unfoldable pub token_by : List ℕ → Match
token_by s = best patterns 0 (match (bad 10) 1) s

-- the tokens of a source as `tokens` reads them, with each match by the table
unfoldable pub tokens_by_from : ℕ → ℕ → List ℕ → Outcome (List Token)
tokens_by_from k i [] = ok (token_in (mark 0) (span i i) ∷ [])
tokens_by_from (suc k) i (c ∷ s) = tokens_by_from k (i + 1) s
tokens_by_from zero i (c ∷ s) = do
  let m = token_by (c ∷ s)
  t ← kept m.found (span i (i + m.size)) (blame i m)
  ts ← tokens_by_from (m.size - 1) (i + 1) s
  ok (t ++ ts)

unfoldable pub tokens_by : List ℕ → Outcome (List Token)
tokens_by s = tokens_by_from 0 0 s
