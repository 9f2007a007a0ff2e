-- Rows of blocks rise by start. Assumes nothing.
use mathlib.Core.Path.{◌≡◌}
use mathlib.Core.List.{List}
use Prim.Native.Nat.{ℕ, zero, suc, ◌≤◌, ◌<◌}
use native.Mathlib.Decide.{dec_lt}
use native.Mathlib.Omega.{arith}
use Rattle.rules.specs.Buffers.{head_row, BlockRow}

pub starts-up : (n : ℕ) (bs : List ℕ) → ((k : ℕ) → k < n → BlockRow 0 (head_row bs) k) → (j i : ℕ) → j ≤ i → i < n → (head_row bs j).0 ≤ (head_row bs i).0
starts-up n bs v j zero h l = let e : j ≡ 0 = omega arith in rw e (omega arith)
starts-up n bs v j (suc i) h l = go (dec_lt j (suc i)) (λ p. starts-up n bs v j i p (omega arith))
  where
    go : Dec (j < suc i) → (j ≤ i → (head_row bs j).0 ≤ (head_row bs i).0) → (head_row bs j).0 ≤ (head_row bs (suc i)).0
    go (yes p) ih = let q = ih (omega arith) in omega (arith, (v (suc i) l).after)
    go (no p) ih = let e : j ≡ suc i = omega arith in rw e (omega arith)
