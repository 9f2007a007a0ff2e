-- The first number for which a test holds. Assumes nothing.
use Rattle.std.specs.Prelude.{ℕ, zero, suc, ◌+◌, Bool, true, false}

-- of m numbers from k on; the one behind them where there is none
unfoldable pub first_from : (ℕ → Bool) → ℕ → ℕ → ℕ
first_from holds k zero = k
first_from holds k (suc m) = elim (holds k) [ true ↦ k | false ↦ first_from holds (k + 1) m ]

-- of the numbers below n; n where there is none
unfoldable pub first : (ℕ → Bool) → ℕ → ℕ
first holds n = first_from holds 0 n
