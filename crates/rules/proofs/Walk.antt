-- A walk over a source's tokens: its verdict from a place on is that from the next token's end. Assumes nothing.
use Prim.Native.Nat.{ℕ, ◌+◌, ◌≤◌, ◌<◌}
use mathlib.Core.Path.{◌≡◌, refl, ap, ◌∙◌, sym}
use mathlib.Core.List.{List, [], ◌∷◌, ◌++◌}
use mathlib.Core.Logic.{◌⊎◌, inl, inr}
use native.Mathlib.Numerals.{add-one}
use native.Mathlib.Omega.{arith}
use borrow.Author.Tests.{lt-ltb, le-ltb, le-leb, lt-leb}
use lib.ListN.{length, drop, get_or, drop_of_length-le}
use lib.Seq.{drop-cons}
use Rattle.rules.specs.Base.{Outcome, ok, refused, refuse, ◌>>=◌, ◌>>◌, span, verdict}
use Rattle.rules.specs.Tokens.{Token, token_in, Kind, number, register, mark, word, directive, text, token, blank, bad, match, kept, next_token, tokens_from, tokens, ascii, lexed}
use Rattle.rules.proofs.Lexing.{and_then, tokens-next}
use Rattle.rules.proofs.Shown.{Tells}
use Rattle.rules.proofs.Next.{next-induction}
use Rattle.rules.proofs.Bools.{never}

verdict-more : (t : List Token) (o : Outcome (List Token)) → verdict (o >>= λ ts. ok (t ++ ts)) ≡ verdict o
unfolding verdict
verdict-more t (ok ts) = refl
verdict-more t (refused r) = refl

verdict-seq : (o : Outcome (Unit {0})) (p : Outcome (List Token)) → verdict (o >>= λ x. p) ≡ (o >>= λ x. verdict p)
unfolding verdict
verdict-seq (ok a) p = refl
verdict-seq (refused r) p = refl

-- no token is the end of the source
no_end : (l : List ℕ) (n : ℕ) (k : Kind) → Tells l n k → k ≡ mark 0 → ⊥
no_end l n (number x) t e = never cc
no_end l n (register x) t e = never cc
no_end l n (word x) t e = never cc
no_end l n (directive x) t e = never cc
no_end l n (text x) t e = never cc
no_end l n (mark c) (inl p) e = let z : c ≡ 0 = cc in omega arith
no_end l n (mark c) (inr (inl p)) e = let z : c ≡ 0 = cc in omega arith
no_end l n (mark c) (inr (inr p)) e = let z : c ≡ 0 = cc in omega arith

module _ (s : List ℕ) where
  -- the verdict on the tokens from a place on
  unfoldable pub tokens_on : ℕ → Outcome (Unit {0})
  tokens_on i = verdict (tokens_from 0 i (drop i s))

  -- the verdict after the next token, or its refusal
  unfoldable pub onward : Outcome Token → Outcome (Unit {0})
  onward (ok t) = tokens_on t.place.stop
  onward (refused r) = refused r

  pub tokens-end : (i : ℕ) → length s ≤ i → tokens_on i ≡ ok tt
  unfolding tokens_on verdict tokens_from
  tokens-end i h = rw (drop_of_length-le s h)

  pub tokens-onward : (i : ℕ) → tokens_on i ≡ onward (next_token s i)
  unfolding tokens_on onward and_then kept verdict
  tokens-onward i =
      next-induction s (λ i o. tokens_on i ≡ onward o)
      (λ i h. refl)
      (λ i n k h e l u t. ap verdict (tokens-next s i (match (token k) n) h e) ∙ verdict-more (token_in k (span i (i + n)) ∷ []) (tokens_from 0 (i + n) (drop (i + n) s)))
      (λ i n m h e l u. ap verdict (tokens-next s i (match (bad m) n) h e))
      (λ i n h e l u p. ap verdict (tokens-next s i (match blank n) h e) ∙ verdict-more [] (tokens_from 0 (i + n) (drop (i + n) s)) ∙ p)
      i

  -- a token ends past the place where it was looked for, and inside the source; the source's end is told there alone
  abbrev pub Moves : ℕ → Outcome Token → Type 0
  Moves i (ok t) = ((t.kind ≡ mark 0) × (length s ≤ t.place.stop)) ⊎ ((t.kind ≡ mark 0 → ⊥) × (i < t.place.stop) × (t.place.stop ≤ length s))
  Moves i (refused r) = Unit {0}

  further : (i n : ℕ) (o : Outcome Token) → Moves (i + n) o → Moves i o
  further i n (ok t) (inl e) = inl e
  further i n (ok t) (inr h) = inr (h.0, omega (arith, h.1), h.2)
  further i n (refused r) h = tt

  pub next-moves : (i : ℕ) → Moves i (next_token s i)
  next-moves i =
      next-induction s Moves
      (λ i h. inl (refl, h))
      (λ i n k h e l u t. inr (no_end (get_or s i 0 ∷ drop (i + 1) s) n k t, omega arith, u))
      (λ i n m h e l u. tt)
      (λ i n h e l u p. further i n (next_token s (i + n)) p)
      i

  -- 12, then the tokens' refusals, from a place on
  unfoldable pub whole_on : ℕ → Outcome (Unit {0})
  whole_on i = ascii i (drop i s) >> tokens_on i

  pub whole-start : length s ≤ 262144 → whole_on 0 ≡ verdict (lexed s)
  unfolding whole_on tokens_on verdict lexed tokens
  whole-start h = sym (rw (le-leb _ _ h) (verdict-seq (ascii 0 s) (tokens_from 0 0 s)))

  pub whole_long : 262144 < length s → refuse 11 (span 0 (length s)) ≡ verdict (lexed s)
  unfolding verdict lexed
  whole_long h = rw (lt-leb _ _ h)

  -- the bytes of a part without a byte above x7F are passed over; the first such byte is refused
  module _ (i : ℕ) (h : i < length s) where
    this : drop i s ≡ get_or s i 0 ∷ drop (i + 1) s
    this = rw (add-one, drop-cons s i 0)

    pub ascii-low : get_or s i 0 < 128 → ascii i (drop i s) ≡ ascii (i + 1) (drop (i + 1) s)
    unfolding ascii
    ascii-low l = rw (this, lt-ltb _ _ l)

    pub ascii-high : 128 ≤ get_or s i 0 → ascii i (drop i s) ≡ refuse 12 (span i (i + 1))
    unfolding ascii
    ascii-high l = rw (this, le-ltb _ _ l)
