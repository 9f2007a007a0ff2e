-- What is left of a list, one place on, and the tests that a definition goes by. Assumes nothing.
use Prim.Native.Nat.{ℕ, zero, suc, ◌+◌, ◌<◌, ◌≤◌, suc-le-suc, zero-le}
use mathlib.Core.Path.{◌≡◌, refl, sym}
use mathlib.Core.Bool.{Bool, false}
use mathlib.Core.List.{List, [], ◌∷◌}
use native.Mathlib.Nat.{not-suc-le-zero}
use native.Mathlib.Numerals.{add-one}
use borrow.Author.Tests.{lt-ltb, le-ltb, le-leb, lt-leb, eq-eqb, ne_eqb}
use borrow.Author.Rules.{rules}
use lib.ListN.{length, get_or, drop_of_length-le}
use lib.Seq.{drop-cons}
use Rattle.rules.specs.Tokens.{begins}
use Rattle.base_text.specs.Runs.{from}

module _ {A : Type 0} where
  pub from_start : (s : List A) → from s 0 ≡ s
  unfolding from
  from_start s = refl

  pub from_next : (d : A) (s : List A) (i : ℕ) → i < length s → from s i ≡ get_or s i d ∷ from s (i + 1)
  unfolding from
  from_next d s i h = rw (add-one, drop-cons s i d)

  pub from_end : (s : List A) (i : ℕ) → length s ≤ i → from s i ≡ []
  unfolding from
  from_end s i h = drop_of_length-le s h

pub from_step : (s : List ℕ) (i : ℕ) → i < length s → from s i ≡ get_or s i 0 ∷ from s (i + 1)
from_step = from_next 0

-- a byte that is not 0 lies inside
pub inside : (s : List ℕ) (i : ℕ) → 0 < get_or s i 0 → i < length s
inside [] i h = absurd (not-suc-le-zero h)
inside (x ∷ s) zero h = suc-le-suc zero-le
inside (x ∷ s) (suc i) h = suc-le-suc (inside s i h)

-- the first byte of what is left
pub begins-at : (p : ℕ → Bool) → p 0 ≡ false → (s : List ℕ) (i : ℕ) → begins p (from s i) ≡ p (get_or s i 0)
unfolding begins from
begins-at p e [] zero = sym e
begins-at p e [] (suc i) = sym e
begins-at p e (x ∷ s) zero = refl
begins-at p e (x ∷ s) (suc i) = begins-at p e s i

pub first-at : (s : List ℕ) (i : ℕ) → get_or (from s i) 0 0 ≡ get_or s i 0
unfolding from
first-at [] zero = refl
first-at [] (suc i) = refl
first-at (x ∷ s) zero = refl
first-at (x ∷ s) (suc i) = first-at s i

pub ruleset tests = (rules, lt-ltb, le-ltb, le-leb, lt-leb, eq-eqb, ne_eqb)
