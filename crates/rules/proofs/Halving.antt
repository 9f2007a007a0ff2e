-- A search that halves a sorted table, over any order: the rows below are all below what is looked for, and those above are not. Assumes nothing.
use Prim.Native.Nat.{ℕ, ◌+◌, ◌-◌, ◌/◌, ◌≤◌, ◌<◌}
use native.Mathlib.Nat.{not-suc-le-zero}
use native.Mathlib.Decide.{dec_lt}
use native.Mathlib.Omega.{arith}
use mathlib.Core.Path.{◌≡◌}

-- of n rows: those below `lo` are below, those from `hi` on are above
pub record Halved (Below Above : ℕ → Type 0) (n lo hi : ℕ) : Type 0 where
  pub order : lo ≤ hi
  pub within : hi ≤ n
  pub below : (k : ℕ) → k < lo → Below k
  pub above : (k : ℕ) → hi ≤ k → k < n → Above k

-- the rows are sorted: what is below has only such rows before it, what is above only such after it
pub record Sides (Below Above : ℕ → Type 0) (n : ℕ) : Type 0 where
  pub down : (k m : ℕ) → k < m → m < n → Below m → Below k
  pub up : (k m : ℕ) → k < m → m < n → Above k → Above m

module _ (Below Above : ℕ → Type 0) {n : ℕ} where
  pub halved-start : Halved Below Above n 0 n
  halved-start = record { order = omega arith; within = omega arith; below = λ k h. absurd (not-suc-le-zero h); above = λ k h l. absurd (omega arith) }

  module _ {lo hi : ℕ} (s : Sides Below Above n) (t : Halved Below Above n lo hi) (l : lo < hi) where
    pub halved-up : Below (lo + (hi - lo) / 2) → Halved Below Above n (lo + (hi - lo) / 2 + 1) hi
    halved-up b = record { order = omega arith; within = t.within; below = go; above = t.above }
      where
        go : (k : ℕ) → k < lo + (hi - lo) / 2 + 1 → Below k
        go k h = elim (dec_lt k (lo + (hi - lo) / 2)) [
          | yes p ↦ s.down k (lo + (hi - lo) / 2) p (omega (arith, t.within)) b
          | no p ↦ (let w : k ≡ lo + (hi - lo) / 2 = omega arith in rw w b)
        ]

    pub halved-down : Above (lo + (hi - lo) / 2) → Halved Below Above n lo (lo + (hi - lo) / 2)
    halved-down b = record { order = omega arith; within = omega (arith, t.within); below = t.below; above = go }
      where
        go : (k : ℕ) → lo + (hi - lo) / 2 ≤ k → k < n → Above k
        go k h m = elim (dec_lt (lo + (hi - lo) / 2) k) [
          | yes p ↦ s.up (lo + (hi - lo) / 2) k p m b
          | no p ↦ (let w : k ≡ lo + (hi - lo) / 2 = omega arith in rw w b)
        ]
