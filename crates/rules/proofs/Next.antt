-- Reading the next token from a position, and the induction over what is passed over on the way to it. Assumes nothing.
use Prim.Native.Nat.{ℕ, zero, suc, ◌+◌, ◌-◌, ◌≤◌, ◌<◌}
use mathlib.Core.Path.{◌≡◌, refl, ap, ◌∙◌, sym, subst}
use mathlib.Core.Bool.{Bool, true, false}
use mathlib.Core.List.{List, [], ◌∷◌}
use native.Mathlib.Nat.{add-zero, le_of_suc-le-suc, not-suc-le-zero}
use native.Mathlib.Numerals.{add-one}
use native.Mathlib.Omega.{arith}
use lib.Dec.{ltb}
use borrow.Author.Tests.{ltb-true, ltb-false}
use lib.ListN.{length, drop, get_or, length-drop, drop_of_length-le}
use lib.Seq.{drop-cons, drop-drop}
use Rattle.rules.specs.Base.{Outcome, ok, refuse, span}
use Rattle.rules.specs.Tokens.{Token, token_in, Kind, mark, Found, token, blank, bad, Match, match, token_at, next_from, next_token, blame}
use Rattle.rules.proofs.Sizes.{Within, token-within}
use Rattle.rules.proofs.Shown.{Shows, token-right}

-- bytes already read are passed over
skip : (k i : ℕ) (s : List ℕ) → k ≤ length s → next_from k i s ≡ next_from 0 (i + k) (drop k s)
unfolding next_from
skip zero i s h = rw add-zero
skip (suc k) i [] h = absurd (not-suc-le-zero h)
skip (suc k) i (c ∷ s) h = skip k (i + 1) s (le_of_suc-le-suc h) ∙ ap (λ (n : ℕ). next_from 0 n (drop k s)) (omega arith)

-- what a match at a place gives, with the bytes after the first
unfoldable pub here : ℕ → Match → List ℕ → Outcome Token
here i m rest =
    elim m.found [
      | token k ↦ ok (token_in k (span i (i + m.size)))
      | blank ↦ next_from (m.size - 1) (i + 1) rest
      | bad n ↦ refuse n (blame i m)
    ]

module _ (s : List ℕ) (i : ℕ) where
  pub next-end : length s ≤ i → next_token s i ≡ ok (token_in (mark 0) (span i i))
  unfolding next_token next_from
  next-end h = rw (drop_of_length-le s h)

  pub next_here : i < length s → next_token s i ≡ here i (token_at (get_or s i 0) (drop (i + 1) s)) (drop (i + 1) s)
  unfolding next_token next_from here
  next_here h = rw (drop-cons s i 0, ← add-one i)

  pub here-blank : (n : ℕ) → 1 ≤ n → i + n ≤ length s → here i (match blank n) (drop (i + 1) s) ≡ next_token s (i + n)
  unfolding here next_token
  here-blank n l h =
      let e : i + 1 + (n - 1) ≡ i + n = omega arith in
      skip (n - 1) (i + 1) (drop (i + 1) s) (simp length-drop (omega arith)) ∙ rw (drop-drop, e)

-- What holds at the source's end, of each token and refusal, and of a place if it holds past what is blank there, holds at each place.
module _
    (s : List ℕ) (P : ℕ → Outcome Token → Type 0)
    (at-end : (i : ℕ) → length s ≤ i → P i (ok (token_in (mark 0) (span i i))))
    (at-token : (i n : ℕ) (k : Kind) → i < length s → token_at (get_or s i 0) (drop (i + 1) s) ≡ match (token k) n → 1 ≤ n → i + n ≤ length s → Shows (get_or s i 0 ∷ drop (i + 1) s) n (token k) → P i (ok (token_in k (span i (i + n)))))
    (at-bad : (i n m : ℕ) → i < length s → token_at (get_or s i 0) (drop (i + 1) s) ≡ match (bad m) n → 1 ≤ n → i + n ≤ length s → P i (refuse m (span i (i + n))))
    (at-blank : (i n : ℕ) → i < length s → token_at (get_or s i 0) (drop (i + 1) s) ≡ match blank n → 1 ≤ n → i + n ≤ length s → P (i + n) (next_token s (i + n)) → P i (next_token s (i + n)))
  where
    by-match : (i : ℕ) → i < length s → ((n : ℕ) → 1 ≤ n → P (i + n) (next_token s (i + n))) → (f : Found) (n : ℕ) → token_at (get_or s i 0) (drop (i + 1) s) ≡ match f n → 1 ≤ n → i + n ≤ length s → Shows (get_or s i 0 ∷ drop (i + 1) s) n f → P i (here i (match f n) (drop (i + 1) s))
    unfolding here
    by-match i h again (token k) n e l u w = at-token i n k h e l u w
    by-match i h again blank n e l u w = subst (P i) (sym (here-blank s i n l u)) (at-blank i n h e l u (again n l))
    by-match i h again (bad m) n e l u w = at-bad i n m h e l u

    by-room : (room i : ℕ) → length s - i < room → P i (next_token s i)
    by-room zero i h = absurd (not-suc-le-zero h)
    by-room (suc room) i h = go (ltb i (length s)) refl (λ n l q. by-room room (i + n) (omega arith))
      where
        go : (b : Bool) → ltb i (length s) ≡ b → ((n : ℕ) → 1 ≤ n → i < length s → P (i + n) (next_token s (i + n))) → P i (next_token s i)
        go true b again =
            let q : i < length s = ltb-true _ _ b in
            let m = token_at (get_or s i 0) (drop (i + 1) s) in
            let w : Within (suc (length (drop (i + 1) s))) m = token-within (get_or s i 0) (drop (i + 1) s) in
            subst (P i) (sym (next_here s i q)) (by-match i q (λ n l. again n l q) m.found m.size refl w.least (omega (arith, w.most, length-drop (i + 1) s)) (token-right (get_or s i 0) (drop (i + 1) s)))
        go false b again = let q : length s ≤ i = ltb-false _ _ b in subst (P i) (sym (next-end s i q)) (at-end i q)

    pub next-induction : (i : ℕ) → P i (next_token s i)
    next-induction i = by-room (length s - i + 1) i (omega arith)
