-- Two places that the contract of `place_of` allows are equal. Assumes nothing.
use Rattle.std.specs.declared.option.Option as O
use Rattle.std.specs.declared.option.Option.TheVariants.{Some, None}
use mathlib.Core.Path.{◌≡◌, refl, ap}
use mathlib.Core.List.{List}
use Prim.Native.Nat.{ℕ, suc, ◌<◌, suc-le-suc, zero-le}
use native.Mathlib.Omega.{arith}
use Rattle.rules.specs.Tables.{Table}
use Rattle.rules.specs.Buffers.{tab, head_row}
use Rattle.rules.proofs.Chains.{Spot, here, there}
use Rattle.object_check_blocks.specs.Places.{Inside, Placed}

-- an address has one spot
spot-once : {x : ℕ} {hs : Table ℕ ℕ} {p q : ℕ} → Spot x hs p → Spot x hs q → p ≡ q
spot-once (here a b) (here c d) = omega arith
spot-once (here a b) (there n s e) = absurd (n (omega arith, omega arith))
spot-once (there n s e) (here c d) = absurd (n (omega arith, omega arith))
spot-once (there n s e) (there m t f) = let r = spot-once s t in omega (arith, r)

-- and lies in a block
spot-inside : (n : ℕ) (h : ℕ → ℕ × ℕ) (x p : ℕ) → Spot x (tab n h) p → (k : ℕ) × (k < n) × Inside h x k
spot-inside Prim.Native.Nat.zero h x p x3 = elim x3 [ ]
spot-inside (suc n) h x p (here a b) = (0, suc-le-suc zero-le, (omega arith, omega arith))
spot-inside (suc n) h x p (there m s e) = let w = spot-inside n (λ k. h (suc k)) x _ s in (suc w.0, suc-le-suc w.1, w.2)

pub placed-once : (n w : ℕ) (bs : List ℕ) (x : ℕ) (r s : O.Option ℕ) → Placed n w bs x r → Placed n w bs x s → r ≡ s
placed-once n w bs x (Some p) (Some q) a b = ap Some (spot-once (a.hit p refl).1 (b.hit q refl).1)
placed-once n w bs x (Some p) None a b = let u = spot-inside n (head_row bs) x p (a.hit p refl).1 in absurd (b.miss refl u.0 u.1 u.2)
placed-once n w bs x None (Some q) a b = let u = spot-inside n (head_row bs) x q (b.hit q refl).1 in absurd (a.miss refl u.0 u.1 u.2)
placed-once n w bs x None None a b = refl
