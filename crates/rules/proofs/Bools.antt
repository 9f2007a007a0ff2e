-- What a test says of a choice, and of its parts; what follows from a false equation. Assumes nothing.
use mathlib.Core.Path.{◌≡◌, refl}
use mathlib.Core.Bool.{Bool, true, false, ◌&&◌}
use Prim.Native.Nat.{ℕ}
use native.Mathlib.Omega.{arith}
use Rattle.rules.specs.Base.{when◌then◌else◌}

-- from a false equation between constructors, which `cc` turns into 0 ≡ 1, anything follows
pub never : {A : Type 0} → ◌≡◌ {A = ℕ} 0 1 → A
never z = absurd (omega (arith, z))

-- what holds of both choices holds of the choice
pub either : {A : Type 0} (P : A → Type 0) (b : Bool) {x y : A} → P x → P y → P (when b then x else y)
unfolding when◌then◌else◌
either P true p q = p
either P false p q = q

-- the same where the first choice may use the test
pub either-if : {A : Type 0} (P : A → Type 0) (b : Bool) {x y : A} → (b ≡ true → P x) → P y → P (when b then x else y)
unfolding when◌then◌else◌
either-if P true p q = p refl
either-if P false p q = q

pub and_left : (a b : Bool) → (a && b) ≡ true → a ≡ true
and_left true b e = refl
and_left false b e = e

pub and_right : (a b : Bool) → (a && b) ≡ true → b ≡ true
and_right true b e = e
and_right false b e = never cc
