-- The lesser of two numbers, as the rules say it. Assumes nothing.
use mathlib.Core.Path.{◌≡◌}
use Prim.Native.Nat.{ℕ, ◌≤◌, min}
use native.Mathlib.Decide.{dec_lt}
use native.Mathlib.Omega.{arith}
use borrow.Author.Tests.{lt-ltb, le-ltb}
use Rattle.rules.specs.Base.{when◌then◌else◌}
use Rattle.rules.specs.Buffers.{least}

pub least-min : (m n : ℕ) → least m n ≡ min m n
unfolding least when◌then◌else◌
least-min m n = elim (dec_lt m n) [
  | yes h ↦ rw (lt-ltb m n h) (omega arith)
  | no h ↦ let k : n ≤ m = omega arith in rw (le-ltb m n k) (omega arith)
]
