-- Which rows of the table can begin with a byte, class by class: computed at each byte below 128, and none above. Assumes nothing.
use Prim.Native.Nat.{ℕ, zero, suc, ◌≤◌, ◌<◌}
use mathlib.Core.Path.{◌≡◌, refl, ap, sym, ◌∙◌}
use mathlib.Core.Logic.{◌⊎◌, inl, inr, ⊎_elim}
use mathlib.Core.Bool.{Bool, true, false, not, ◌&&◌, ◌||◌}
use mathlib.Core.List.{List, [], ◌∷◌}
use native.Mathlib.Omega.{arith}
use lib.Dec.{T, eqb, leb, ltb, ltb→lt}
use borrow.Author.Tests.{ne_eqb, lt-leb, le-leb, not-true, ltb-true, ltb-false}
use Rattle.rules.specs.Base.{when◌then◌else◌, is, within}
use Rattle.rules.specs.Regex.{matching}
use Rattle.rules.specs.Patterns.{Row, patterns, best, token_by}
use Rattle.rules.specs.Tokens.{match, bad, digit, letter, space, upper, value, wordy, lexing, token_at}
use Rattle.rules.proofs.Best.{alive, masked, only-alive}
use Rattle.rules.proofs.Run.{run, in_run}
use Rattle.rules.proofs.Bools.{never}

same_bools : List Bool → List Bool → Bool
same_bools [] [] = true
same_bools [] (b ∷ bs) = false
same_bools (a ∷ as') [] = false
same_bools (true ∷ as') (true ∷ bs) = same_bools as' bs
same_bools (true ∷ as') (false ∷ bs) = false
same_bools (false ∷ as') (true ∷ bs) = false
same_bools (false ∷ as') (false ∷ bs) = same_bools as' bs

same_bools-eq : (a b : List Bool) → T (same_bools a b) → a ≡ b
unfolding same_bools
same_bools-eq [] [] t = refl
same_bools-eq [] (b ∷ bs) t = absurd t
same_bools-eq (a ∷ as') [] t = absurd t
same_bools-eq (true ∷ as') (true ∷ bs) t = ap (λ (l : List Bool). true ∷ l) (same_bools-eq as' bs t)
same_bools-eq (true ∷ as') (false ∷ bs) t = absurd t
same_bools-eq (false ∷ as') (true ∷ bs) t = absurd t
same_bools-eq (false ∷ as') (false ∷ bs) t = ap (λ (l : List Bool). false ∷ l) (same_bools-eq as' bs t)

implies : (a b : Bool) → a ≡ true → T (not a || b) → T b
implies true b e t = t
implies false b e t = never cc

T_true : (b : Bool) → T b → b ≡ true
T_true true t = refl
T_true false t = absurd t

-- the rows of the table at these places, counted from 0
member : ℕ → List ℕ → Bool
member i [] = false
member i (k ∷ ks) = eqb i k || member i ks

marks : ℕ → ℕ → List ℕ → List Bool
unfolding member
marks zero i ks = []
marks (suc n) i ks = member i ks ∷ marks n (suc i) ks

unfoldable pub rows_at : List ℕ → List Row
unfolding marks masked patterns
rows_at ks = masked (marks 17 0 ks) patterns

-- with a byte of the class p, of those below 128, these rows can begin and no others
unfoldable pub Starts : (ℕ → Bool) → List ℕ → Type 0
unfolding same_bools marks alive patterns matching lexing
Starts p ks = T (run (λ x. not (p x) || same_bools (alive x patterns) (marks 17 0 ks)) 0 128)

pub starts : (p : ℕ → Bool) (ks : List ℕ) → Starts p ks → (c : ℕ) → c < 128 → p c ≡ true → (s : List ℕ) → token_by (c ∷ s) ≡ best (rows_at ks) 0 (match (bad 10) 1) (c ∷ s)
unfolding Starts token_by rows_at
starts p ks t c l e s =
    only-alive c s patterns 0 (match (bad 10) 1)
    ∙ ap (λ (bs : List Bool). best (masked bs patterns) 0 (match (bad 10) 1) (c ∷ s))
    (same_bools-eq (alive c patterns) (marks 17 0 ks) (implies (p c) _ e (in_run (λ x. not (p x) || same_bools (alive x patterns) (marks 17 0 ks)) 0 128 t c (omega arith) (omega arith))))

-- what is of the class p, of the bytes below 128, is of q
unfoldable pub Inside : (ℕ → Bool) → (ℕ → Bool) → Type 0
unfolding lexing
Inside p q = T (run (λ x. not (p x) || q x) 0 128)

pub inside : (p q : ℕ → Bool) → Inside p q → (c : ℕ) → c < 128 → p c ≡ true → q c ≡ true
unfolding Inside
inside p q t c l e = T_true (q c) (implies (p c) (q c) e (in_run (λ x. not (p x) || q x) 0 128 t c (omega arith) (omega arith)))

pub digit-starts : Starts digit (1 ∷ [])
unfolding Starts
digit-starts = tt

pub hash-starts : Starts (is "#") (2 ∷ 5 ∷ 7 ∷ [])
unfolding Starts
hash-starts = tt

pub minus-starts : Starts (is "-") (4 ∷ 6 ∷ [])
unfolding Starts
minus-starts = tt

pub x-starts : Starts (λ c. is "X" (upper c)) (3 ∷ 8 ∷ 10 ∷ [])
unfolding Starts
x-starts = tt

pub r-starts : Starts (λ c. is "R" (upper c)) (9 ∷ 10 ∷ [])
unfolding Starts
r-starts = tt

pub letter-starts : Starts (λ c. letter c && not (is "X" (upper c) || is "R" (upper c))) (10 ∷ [])
unfolding Starts
letter-starts = tt

pub point-starts : Starts (is ".") (11 ∷ [])
unfolding Starts
point-starts = tt

pub quote-starts : Starts (is "\"") (12 ∷ [])
unfolding Starts
quote-starts = tt

pub colon-starts : Starts (is ":") (13 ∷ [])
unfolding Starts
colon-starts = tt

pub comma-starts : Starts (is ",") (14 ∷ [])
unfolding Starts
comma-starts = tt

pub semicolon-starts : Starts (is ";") (15 ∷ [])
unfolding Starts
semicolon-starts = tt

pub lf-starts : Starts (is "\n") (16 ∷ [])
unfolding Starts
lf-starts = tt

pub cr-starts : Starts (is "\r") (16 ∷ [])
unfolding Starts
cr-starts = tt

pub space-starts : Starts space (0 ∷ [])
unfolding Starts
space-starts = tt

-- none of these
abbrev pub other : ℕ → Bool
other c =
    not
    (digit c || is "#" c || is "-" c || is "X" (upper c) || is "R" (upper c) || letter c || is "." c || is "\"" c || is ":" c || is "," c || is ";" c || is "\n" c || is "\r" c || space c)

pub other-starts : Starts other []
unfolding Starts
other-starts = tt

-- the letters that begin more than a word
pub x-either : Inside (λ c. is "X" (upper c)) (λ c. is "X" c || is "x" c)
unfolding Inside
x-either = tt

pub x-letter : Inside (λ c. is "X" (upper c)) letter
unfolding Inside
x-letter = tt

pub r-either : Inside (λ c. is "R" (upper c)) (λ c. is "R" c || is "r" c)
unfolding Inside
r-either = tt

pub r-letter : Inside (λ c. is "R" (upper c)) letter
unfolding Inside
r-letter = tt

pub low_or_high : (c : ℕ) → (c < 128) ⊎ (128 ≤ c)
low_or_high c = go (ltb c 128) refl
  where
    go : (b : Bool) → ltb c 128 ≡ b → (c < 128) ⊎ (128 ≤ c)
    go true e = inl (ltb-true c 128 e)
    go false e = inr (ltb-false c 128 e)

-- [\dA-Fa-f]
abbrev pub hex_digit : ℕ → Bool
hex_digit c = digit c || within "A" "F" c || within "a" "f" c

-- a byte above is of no class
module _ (c : ℕ) (h : 128 ≤ c) where
  not_equal : (k : ℕ) → T (ltb k 128) → eqb c k ≡ false
  not_equal k t = ne_eqb c k (λ e. absurd (omega (arith, ltb→lt k 128 t)))

  not-below : (k : ℕ) → T (ltb k 128) → leb c k ≡ false
  not-below k t = lt-leb c k (omega (arith, ltb→lt k 128 t))

  from : (k : ℕ) → T (ltb k 128) → leb k c ≡ true
  from k t = le-leb k c (omega (arith, ltb→lt k 128 t))

  high-hex : hex_digit c ≡ false
  unfolding digit
  high-hex = let u : Unit {0} = tt in simp (not-below, from)

  high_value : ltb (value c) 16 ≡ false
  unfolding when◌then◌else◌ digit upper value
  high_value = let u : Unit {0} = tt in simp (not-below, from)

  none-starts : alive c patterns ≡ marks 17 0 []
  unfolding marks alive patterns matching lexing
  none-starts = let u : Unit {0} = tt in simp (not_equal, not-below, from)

  pub high-by : (s : List ℕ) → token_by (c ∷ s) ≡ match (bad 10) 1
  unfolding token_by best marks masked patterns
  high-by s = only-alive c s patterns 0 (match (bad 10) 1) ∙ ap (λ (bs : List Bool). best (masked bs patterns) 0 (match (bad 10) 1) (c ∷ s)) none-starts

  pub high-at : (s : List ℕ) → token_at c s ≡ match (bad 10) 1
  unfolding lexing
  high-at s = let u : Unit {0} = tt in simp (not_equal, not-below, from)

low-hex : Inside (λ c. not (ltb (value c) 16)) (λ c. not (hex_digit c))
unfolding Inside
low-hex = tt

low_value : Inside (λ c. ltb (value c) 16) hex_digit
unfolding Inside
low_value = tt

hex-letters : Inside hex_digit wordy
unfolding Inside
hex-letters = tt

-- what is a hex digit has a value below 16, and nothing else has
pub hex-value : (c : ℕ) → hex_digit c ≡ ltb (value c) 16
hex-value c = ⊎_elim (λ l. go l (ltb (value c) 16) refl) (λ h. high-hex c h ∙ sym (high_value c h)) (low_or_high c)
  where
    go : c < 128 → (b : Bool) → ltb (value c) 16 ≡ b → hex_digit c ≡ b
    go l true e = inside (λ x. ltb (value x) 16) hex_digit low_value c l e
    go l false e = not-true (hex_digit c) (inside (λ x. not (ltb (value x) 16)) (λ x. not (hex_digit x)) low-hex c l (ap not e))

pub hex-wordy : (c : ℕ) → hex_digit c ≡ true → wordy c ≡ true
hex-wordy c e = ⊎_elim (λ l. inside hex_digit wordy hex-letters c l e) (λ h. never (cc (high-hex c h))) (low_or_high c)
