-- Reading on from a position: what a loop over the source needs of `tokens_from`. Assumes nothing.
use Prim.Native.Nat.{ℕ, zero, suc, ◌+◌, ◌-◌, ◌≤◌, ◌<◌}
use mathlib.Core.Path.{◌≡◌, ap, ◌∙◌}
use mathlib.Core.List.{List, [], ◌∷◌, ◌++◌}
use native.Mathlib.Nat.{add-zero, le_of_suc-le-suc, not-suc-le-zero}
use native.Mathlib.Numerals.{add-one}
use native.Mathlib.Omega.{arith}
use lib.ListN.{length, drop, get_or, length-drop}
use lib.Seq.{drop-cons, drop-drop}
use Rattle.rules.specs.Base.{Outcome, ok, ◌>>=◌, span}
use Rattle.rules.proofs.Sizes.{Within, token-within}
use Rattle.rules.specs.Tokens.{Token, Match, token_at, kept, tokens_from, blame}

-- bytes already read are passed over
skip : (k i : ℕ) (s : List ℕ) → k ≤ length s → tokens_from k i s ≡ tokens_from 0 (i + k) (drop k s)
unfolding tokens_from
skip zero i s h = rw add-zero
skip (suc k) i [] h = absurd (not-suc-le-zero h)
skip (suc k) i (c ∷ s) h = skip k (i + 1) s (le_of_suc-le-suc h) ∙ ap (λ (n : ℕ). tokens_from 0 n (drop k s)) (omega arith)

-- what the rest of the source gives after a match
unfoldable pub and_then : Match → ℕ → List ℕ → Outcome (List Token)
and_then m i rest = do
  t ← kept m.found (span i (i + m.size)) (blame i m)
  ts ← tokens_from 0 (i + m.size) rest
  ok (t ++ ts)

step : (c i : ℕ) (r : List ℕ) (m : Match) → token_at c r ≡ m → 1 ≤ m.size → m.size - 1 ≤ length r → tokens_from 0 i (c ∷ r) ≡ and_then m i (drop (m.size - 1) r)
unfolding tokens_from and_then
step c i r m e lo hi =
    rw e
    (ap (λ (f : Outcome (List Token)). kept m.found (span i (i + m.size)) (blame i m) >>= λ t. f >>= λ ts. ok (t ++ ts))
    (skip (m.size - 1) (i + 1) r hi ∙ ap (λ (n : ℕ). tokens_from 0 n (drop (m.size - 1) r)) (omega arith)))

-- the tokens from position i: the one there, then those from its end
pub tokens-at :
    (s : List ℕ) (i : ℕ) (m : Match) → i < length s → token_at (get_or s i 0) (drop (i + 1) s) ≡ m → 1 ≤ m.size → i + m.size ≤ length s
    → tokens_from 0 i (drop i s) ≡ and_then m i (drop (i + m.size) s)
tokens-at s i m h e lo hi =
    let n : i + 1 + (m.size - 1) ≡ i + m.size = omega arith in
    rw (drop-cons s i 0, ← add-one i)
    (step (get_or s i 0) i (drop (i + 1) s) m e lo (simp length-drop (omega arith))
    ∙ ap (and_then m i) (drop-drop (m.size - 1) (i + 1) s ∙ ap (λ (n : ℕ). drop n s) n))

-- the same with nothing left to show: at each position inside the source there is a match, and it ends inside
pub tokens-next : (s : List ℕ) (i : ℕ) (m : Match) → i < length s → token_at (get_or s i 0) (drop (i + 1) s) ≡ m → tokens_from 0 i (drop i s) ≡ and_then m i (drop (i + m.size) s)
tokens-next s i m h e =
    let w : Within (suc (length (drop (i + 1) s))) m = rw e at (token-within (get_or s i 0) (drop (i + 1) s)) in
    tokens-at s i m h e w.least (omega (arith, w.most, length-drop (i + 1) s))
