-- Going on by a step while a test holds: where each step goes on and none past n, the count of steps shows nowhere else. Assumes nothing.
use Prim.Native.Nat.{ℕ, zero, suc, ◌+◌, ◌-◌, ◌≤◌, ◌<◌}
use mathlib.Core.Path.{◌≡◌, refl}
use mathlib.Core.Bool.{Bool, true, false}
use native.Mathlib.Omega.{arith}
use Rattle.rules.specs.Statements.{walk}

-- every step goes on, and none past n
pub record Grows (p : ℕ → Bool) (f : ℕ → ℕ) (n : ℕ) : Type 0 where
  pub on : (i : ℕ) → p i ≡ true → i < f i
  pub to : (i : ℕ) → p i ≡ true → f i ≤ n

module _ (p : ℕ → Bool) (f : ℕ → ℕ) (n : ℕ) (g : Grows p f n) where
  past-at : (i : ℕ) → n ≤ i → (b : Bool) → p i ≡ b → p i ≡ false
  past-at i h true e = let u = g.on i e in let v = g.to i e in absurd (omega arith)
  past-at i h false e = e

  -- past n the test fails
  pub past : (i : ℕ) → n ≤ i → p i ≡ false
  past i h = past-at i h (p i) refl

  same_step : (k l i : ℕ) → ((j : ℕ) → n - j ≤ k → n - j ≤ l → walk p f k j ≡ walk p f l j) → n - i ≤ suc k → n - i ≤ suc l → (b : Bool) → p i ≡ b → ◌≡◌ {A = ℕ} (elim b [ true ↦ walk p f k (f i) | false ↦ i ]) (elim b [ true ↦ walk p f l (f i) | false ↦ i ])
  same_step k l i r a c true e = let u = g.on i e in let v = g.to i e in r (f i) (omega arith) (omega arith)
  same_step k l i r a c false e = refl

  -- any count that is large enough
  same-walk : (k l i : ℕ) → n - i ≤ k → n - i ≤ l → walk p f k i ≡ walk p f l i
  unfolding walk
  same-walk zero zero i a c = refl
  same-walk zero (suc l) i a c = let h : p i ≡ false = past i (omega arith) in rw (h, walk)
  same-walk (suc k) zero i a c = let h : p i ≡ false = past i (omega arith) in rw (h, walk)
  same-walk (suc k) (suc l) i a c = same_step k l i (same-walk k l) a c (p i) refl

  pub walk-on : (i : ℕ) → p i ≡ true → walk p f (n - i) i ≡ walk p f (n - f i) (f i)
  unfolding walk
  walk-on i e =
      let u = g.on i e in
      let v = g.to i e in
      let z : n - i ≡ suc (n - (i + 1)) = omega arith in
      rw (z, e, walk) (same-walk (n - (i + 1)) (n - f i) (f i) (omega arith) (omega arith))

  done : (k i : ℕ) → p i ≡ false → walk p f k i ≡ i
  unfolding walk
  done zero i e = refl
  done (suc k) i e = rw (e, walk)

  pub walk-done : (i : ℕ) → p i ≡ false → walk p f (n - i) i ≡ i
  walk-done i e = done (n - i) i e

  least_at : (k i : ℕ) → ((j : ℕ) → j ≤ walk p f k j) → (b : Bool) → p i ≡ b → i ≤ elim b as (λ x. ℕ) [ true ↦ walk p f k (f i) | false ↦ i ]
  least_at k i r true e = let u = g.on i e in let v = r (f i) in omega arith
  least_at k i r false e = omega arith

  -- a walk does not go back
  pub walk-ge : (k i : ℕ) → i ≤ walk p f k i
  unfolding walk
  walk-ge zero i = omega arith
  walk-ge (suc k) i = least_at k i (walk-ge k) (p i) refl

  most-at : (k i : ℕ) → i ≤ n → ((j : ℕ) → j ≤ n → walk p f k j ≤ n) → (b : Bool) → p i ≡ b → elim b as (λ x. ℕ) [ true ↦ walk p f k (f i) | false ↦ i ] ≤ n
  most-at k i h r true e = r (f i) (g.to i e)
  most-at k i h r false e = h

  -- nor past n
  pub walk-le : (k i : ℕ) → i ≤ n → walk p f k i ≤ n
  unfolding walk
  walk-le zero i h = h
  walk-le (suc k) i h = most-at k i h (walk-le k) (p i) refl
