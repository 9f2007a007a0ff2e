-- How a list begins: `begins` and `while` beside each other. Assumes nothing.
use Prim.Native.Nat.{ℕ, zero, suc, ◌+◌, ◌<◌}
use mathlib.Core.Path.{◌≡◌, refl, ap, sym, ◌∙◌}
use mathlib.Core.Bool.{Bool, true, false, not}
use mathlib.Core.List.{List, [], ◌∷◌}
use native.Mathlib.Nat.{zero-add, suc-add}
use native.Mathlib.Omega.{arith}
use lib.Dec.{eqb, eqb-suc-zero}
use lib.ListN.{length, take, drop}
use Rattle.rules.specs.Tokens.{while, begins}
use Rattle.rules.proofs.While.{yes-cons, no-cons}
use Rattle.rules.proofs.Bools.{never}

-- the part that `while` reads, cut out again: after n bytes
take_while : (p : ℕ → Bool) (s : List ℕ) → take (length (while p s)) s ≡ while p s
unfolding while
take_while p [] = refl
take_while p (c ∷ s) = go (p c) refl (take_while p s)
  where
    go : (b : Bool) → p c ≡ b → take (length (while p s)) s ≡ while p s → take (length (while p (c ∷ s))) (c ∷ s) ≡ while p (c ∷ s)
    go true e h = rw (yes-cons p c s e) (ap (λ (l : List ℕ). c ∷ l) h)
    go false e h = rw (no-cons p c s e)

pub drop-taken : (p : ℕ → Bool) (n : ℕ) (s : List ℕ) → drop n (take (n + length (while p (drop n s))) s) ≡ while p (drop n s)
unfolding while
drop-taken p zero s = rw zero-add (take_while p s)
drop-taken p (suc n) [] = rw suc-add
drop-taken p (suc n) (c ∷ s) = rw suc-add (drop-taken p n s)

module _ (p q : ℕ → Bool) where
  pub begins-apart : ((x : ℕ) → p x ≡ true → q x ≡ false) → (s : List ℕ) → begins p s ≡ true → begins q s ≡ false
  unfolding begins
  begins-apart h [] e = refl
  begins-apart h (x ∷ s) e = h x e

  pub begins-within : ((x : ℕ) → p x ≡ true → q x ≡ true) → (s : List ℕ) → begins p s ≡ true → begins q s ≡ true
  unfolding begins
  begins-within h [] e = e
  begins-within h (x ∷ s) e = h x e

  pub begins-same : ((x : ℕ) → p x ≡ q x) → (s : List ℕ) → begins p s ≡ begins q s
  unfolding begins
  begins-same h [] = refl
  begins-same h (x ∷ s) = h x

  -- all of a class, then one more of a wider class: the wider runs on
  pub while-same : ((x : ℕ) → p x ≡ true → q x ≡ true) → (s : List ℕ) → begins q (drop (length (while p s)) s) ≡ false → while q s ≡ while p s
  unfolding while begins
  while-same h [] e = refl
  while-same h (x ∷ s) e = go (p x) refl (while-same h s) e
    where
      go :
          (b : Bool) → p x ≡ b → (begins q (drop (length (while p s)) s) ≡ false → while q s ≡ while p s)
          → begins q (drop (length (while p (x ∷ s))) (x ∷ s)) ≡ false → while q (x ∷ s) ≡ while p (x ∷ s)
      go true b ih e = rw (yes-cons p x s b, yes-cons q x s (h x b)) (ap (λ (l : List ℕ). x ∷ l) (ih (rw (yes-cons p x s b) at e)))
      go false b ih e = no-cons q x s (rw (no-cons p x s b) at e) ∙ sym (no-cons p x s b)

  pub while-longer : ((x : ℕ) → p x ≡ true → q x ≡ true) → (s : List ℕ) → begins q (drop (length (while p s)) s) ≡ true → length (while p s) < length (while q s)
  unfolding while begins
  while-longer h [] e = never cc
  while-longer h (x ∷ s) e = go (p x) refl (while-longer h s) e
    where
      go :
          (b : Bool) → p x ≡ b → (begins q (drop (length (while p s)) s) ≡ true → length (while p s) < length (while q s))
          → begins q (drop (length (while p (x ∷ s))) (x ∷ s)) ≡ true → length (while p (x ∷ s)) < length (while q (x ∷ s))
      go true b ih e = rw (yes-cons p x s b, yes-cons q x s (h x b)) (omega (arith, ih (rw (yes-cons p x s b) at e)))
      go false b ih e = rw (no-cons p x s b, yes-cons q x s (rw (no-cons p x s b) at e)) (omega arith)

module _ (p : ℕ → Bool) where
  pub while-none : (s : List ℕ) → begins p s ≡ false → while p s ≡ []
  unfolding while begins
  while-none [] e = refl
  while-none (x ∷ s) e = no-cons p x s e

  pub while-one : (s : List ℕ) → begins p s ≡ true → length (while p s) ≡ 1 + length (while p (drop 1 s))
  unfolding while begins
  while-one [] e = never cc
  while-one (x ∷ s) e = rw (yes-cons p x s e) (omega arith)

  pub begins-count : (s : List ℕ) → begins p s ≡ not (eqb (length (while p s)) 0)
  unfolding while begins
  begins-count [] = refl
  begins-count (x ∷ s) = go (p x) refl
    where
      go : (b : Bool) → p x ≡ b → b ≡ not (eqb (length (while p (x ∷ s))) 0)
      go true e = rw (yes-cons p x s e, eqb-suc-zero)
      go false e = rw (no-cons p x s e)
