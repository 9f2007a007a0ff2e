-- What the code tells of the next token loses nothing: it means what the rule says. Assumes nothing.
use Prim.Native.Nat.{ℕ, ◌+◌, ◌-◌, ◌<◌}
use mathlib.Core.Path.{◌≡◌, refl}
use mathlib.Core.List.{List, ◌∷◌}
use mathlib.Core.Logic.{inl, inr}
use native.Mathlib.Numerals.{add-one}
use native.Mathlib.Omega.{arith}
use lib.ListN.{length, get_or, drop}
use lib.Seq.{drop-cons}
use Rattle.rules.specs.Base.{when◌then◌else◌, ok, span}
use Rattle.rules.specs.Tokens.{plus, minus, Kind, number, register, mark, word, directive, text, token_in, next_token}
use Rattle.rules.proofs.Shown.{Tells}
use Rattle.rules.proofs.Next.{next-induction}
use Rattle.lex_token.specs.Coded.{marked, coded_as, coded}
use Rattle.lex_token.specs.Meant.{part, kind_at, meant}

module _ (s : List ℕ) where
  token-meant : (i n : ℕ) (k : Kind) → i < length s → Tells (get_or s i 0 ∷ drop (i + 1) s) n k → meant s (coded_as k i (i + n)) ≡ ok (token_in k (span i (i + n)))
  unfolding coded_as meant kind_at marked part when◌then◌else◌
  token-meant i n (number (plus x)) h t = refl
  token-meant i n (number (minus x)) h t = refl
  token-meant i n (register x) h t = refl
  token-meant i n (mark c) h (inl e) = rw e
  token-meant i n (mark c) h (inr (inl e)) = rw e
  token-meant i n (mark c) h (inr (inr e)) = rw e
  token-meant i n (word w) h t =
      let m : i + n - i ≡ n = omega arith in
      let d : drop i s ≡ get_or s i 0 ∷ drop (i + 1) s = rw (add-one, drop-cons s i 0) in
      rw (m, d, t)
  token-meant i n (directive w) h t =
      let m : i + n - (i + 1) ≡ n - 1 = omega arith in
      rw (m, t)
  token-meant i n (text x) h t = rw t

  pub meant-coded : (at : ℕ) → meant s (coded (next_token s at)) ≡ next_token s at
  unfolding coded coded_as meant marked when◌then◌else◌
  meant-coded at =
      next-induction s (λ i o. meant s (coded o) ≡ o)
      (λ i h. refl)
      (λ i n k h e l u t. token-meant i n k h t)
      (λ i n m h e l u. refl)
      (λ i n h e l u p. p)
      at
