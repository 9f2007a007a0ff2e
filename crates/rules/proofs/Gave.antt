-- A stage that gave something: what the stage before it gave. Assumes nothing.
use mathlib.Core.Path.{◌≡◌, refl}
use Rattle.rules.specs.Base.{Outcome, ok, refused, ◌>>=◌}
use Rattle.rules.proofs.Bools.{never}

pub record Gave {A B : Type 0} (o : Outcome A) (f : A → Outcome B) (b : B) : Type 0 where
  pub given' : A
  pub first : o ≡ ok given'
  pub then' : f given' ≡ ok b

pub gave : {A B : Type 0} (o : Outcome A) (f : A → Outcome B) (b : B) → (o >>= f) ≡ ok b → Gave o f b
gave (ok a) f b e = record { given' = a; first = refl; then' = e }
gave (refused r) f b e = never cc
