-- Upper case by ranges of bytes. Assumes nothing.
use Prim.Native.Nat.{ℕ, ◌-◌, ◌≤◌, ◌<◌}
use mathlib.Core.Path.{◌≡◌}
use native.Mathlib.Omega.{arith}
use borrow.Author.Tests.{le-leb, lt-leb}
use Rattle.rules.specs.Base.{when◌then◌else◌}
use Rattle.rules.specs.Tokens.{upper}

pub upper-low : (c : ℕ) → c < 97 → c ≡ upper c
unfolding upper when◌then◌else◌
upper-low c h = rw (lt-leb 97 c h)

pub upper-small : (c : ℕ) → 97 ≤ c → c ≤ 122 → c - 32 ≡ upper c
unfolding upper when◌then◌else◌
upper-small c l h = rw (le-leb 97 c l, le-leb c 122 h)

pub upper-high : (c : ℕ) → 122 < c → c ≡ upper c
unfolding upper when◌then◌else◌
upper-high c h = let l : 97 ≤ c = omega arith in rw (le-leb 97 c l, lt-leb c 122 h)
