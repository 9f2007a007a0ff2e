-- A test's answer says exactly whether a fact holds. Assumes nothing.
use Rattle.std.specs.Prelude.{◌≡◌, refl, Bool, true, false}
use Rattle.rules.proofs.Bools.{never}

pub record Decides (P : Type 0) (r : Bool) : Type 0 where
  pub yes : r ≡ true → P
  pub no : r ≡ false → P → ⊥

pub decides_yes : {P : Type 0} → P → Decides P true
decides_yes p = record { yes = λ e. p; no = λ e q. never cc }

pub decides_no : {P : Type 0} → (P → ⊥) → Decides P false
decides_no n = record { yes = λ e. never cc; no = λ e. n }

-- two answers that decide the same are equal
pub decides-once : {P : Type 0} (r s : Bool) → Decides P r → Decides P s → r ≡ s
decides-once true true d e = refl
decides-once true false d e = absurd (e.no refl (d.yes refl))
decides-once false true d e = absurd (d.no refl (e.yes refl))
decides-once false false d e = refl
