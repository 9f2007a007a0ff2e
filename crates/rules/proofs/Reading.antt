-- The reading by the table of lex.rs is the reading by hand, of every first byte and of a whole source. Assumes nothing.
use Prim.Native.Nat.{ℕ, zero, suc, ◌+◌, ◌-◌, ◌<◌}
use mathlib.Core.Path.{◌≡◌, refl, ap, sym, ◌∙◌}
use mathlib.Core.Bool.{Bool, true, false, ◌&&◌}
use mathlib.Core.Logic.{⊎_elim}
use mathlib.Core.List.{List, [], ◌∷◌, ◌++◌}
use Rattle.rules.specs.Base.{when◌then◌else◌, is, Outcome, ok, ◌>>=◌, span}
use Rattle.rules.specs.Patterns.{token_by, tokens_by_from, tokens_by}
use Rattle.rules.specs.Tokens.{Match, match, bad, begins, digit, letter, space, upper, Token, kept, token_at, tokens_from, tokens, blame}
use Rattle.rules.proofs.FirstByte as F
use Rattle.rules.proofs.FirstByte.{by-test, if_yes, if_no}
use Rattle.rules.proofs.Bools.{and_left, and_right}
use Rattle.rules.proofs.Starts as S
use Rattle.rules.proofs.Starts.{starts, inside, low_or_high, other, high-by, high-at}

module _ (c : ℕ) (s : List ℕ) (low : c < 128) where
  abbrev By : Match → Type 0
  By m = token_by (c ∷ s) ≡ m

  -- a carriage return without a line feed, and what begins no pattern
  nothing : (b : Bool) → is "\r" c ≡ b → (b && begins (is "\n") s) ≡ false → (is "\r" c ≡ false → other c ≡ true) → By (match (bad 10) 1)
  nothing true r n o = starts _ _ S.cr-starts c low r s ∙ F.cr-rows c s r ∙ if_no _ _ n
  nothing false r n o = starts other [] S.other-starts c low (o r) s ∙ F.no_rows c s

  low_by : By (token_at c s)
  unfolding token_at
  low_by =
      by-test By (digit c) (λ e. starts _ _ S.digit-starts c low e s ∙ F.digit-rows c s e) (λ not_digit.
      by-test By (is "#" c) (λ e. starts _ _ S.hash-starts c low e s ∙ F.hash-rows c s e) (λ not-hash.
      by-test By (is "-" c) (λ e. starts _ _ S.minus-starts c low e s ∙ F.minus-rows c s e) (λ not-minus.
      by-test By (is "X" (upper c)) (λ e. starts _ _ S.x-starts c low e s ∙ F.x-rows c s (inside _ _ S.x-either c low e) (inside _ _ S.x-letter c low e)) (λ not-x.
      by-test By (is "R" (upper c)) (λ e. starts _ _ S.r-starts c low e s ∙ F.r-rows c s (inside _ _ S.r-either c low e) (inside _ _ S.r-letter c low e)) (λ not-r.
      by-test By (letter c) (λ e. starts _ _ S.letter-starts c low (rw (e, not-x, not-r)) s ∙ F.letter-rows c s e) (λ not-letter.
      by-test By (is "." c) (λ e. starts _ _ S.point-starts c low e s ∙ F.point-rows c s e) (λ not-point.
      by-test By (is "\"" c) (λ e. starts _ _ S.quote-starts c low e s ∙ F.quote-rows c s e) (λ not-quote.
      by-test By (is ":" c) (λ e. starts _ _ S.colon-starts c low e s ∙ F.colon-rows c s e) (λ not-colon.
      by-test By (is "," c) (λ e. starts _ _ S.comma-starts c low e s ∙ F.comma-rows c s e) (λ not-comma.
      by-test By (is ";" c) (λ e. starts _ _ S.semicolon-starts c low e s ∙ F.comment-rows c s e) (λ not-semicolon.
      by-test By (is "\n" c) (λ e. starts _ _ S.lf-starts c low e s ∙ F.lf-rows c s e) (λ not-lf.
      by-test By (is "\r" c && begins (is "\n") s) (λ e. let r = and_left (is "\r" c) (begins (is "\n") s) e in starts _ _ S.cr-starts c low r s ∙ F.cr-rows c s r ∙ if_yes _ _ (and_right (is "\r" c) (begins (is "\n") s) e)) (λ not-crlf.
      by-test By (space c) (λ e. starts _ _ S.space-starts c low e s ∙ F.space-rows c s e) (λ not-space.
      nothing (is "\r" c) refl not-crlf (λ not-cr. simp (not_digit, not-hash, not-minus, not-x, not-r, not-letter, not-point, not-quote, not-colon, not-comma, not-semicolon, not-lf, not-cr, not-space))))))))))))))))

-- the token that begins with any byte
pub token-by : (c : ℕ) (s : List ℕ) → token_by (c ∷ s) ≡ token_at c s
token-by c s = ⊎_elim (low_by c s) (λ h. high-by c h s ∙ sym (high-at c h s)) (low_or_high c)

-- the tokens of a whole source
from-by : (k i : ℕ) (s : List ℕ) → tokens_by_from k i s ≡ tokens_from k i s
unfolding tokens_by_from tokens_from
from-by k i [] = refl
from-by (suc k) i (c ∷ s) = from-by k (i + 1) s
from-by zero i (c ∷ s) = rw (token-by c s) (ap (λ (f : Outcome (List Token)). kept (token_at c s).found (span i (i + (token_at c s).size)) (blame i (token_at c s)) >>= λ t. f >>= λ ts. ok (t ++ ts)) (from-by ((token_at c s).size - 1) (i + 1) s))

pub tokens-by : (s : List ℕ) → tokens_by s ≡ tokens s
unfolding tokens_by tokens
tokens-by s = from-by 0 0 s
