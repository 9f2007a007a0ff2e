-- Stages whose refusals have a number of the table, one after another. Assumes nothing.
use Prim.Native.Nat.{ℕ}
use mathlib.Core.Path.{◌≡◌, refl}
use mathlib.Core.Bool.{Bool, true, false}
use mathlib.Core.Option.{Option, none, some}
use Rattle.rules.specs.Base.{when◌then◌else◌, Outcome, ok, refused, ◌>>=◌, require, Refusal, Span}
use Rattle.rules.specs.Statements.{need}
use Rattle.rules.proofs.Bools.{never, either}
use Rattle.laws_numbers.specs.Known.{known, Numbered}

module _ {A : Type 0} where
  pub gives : (a : A) → Numbered {A = A} (ok a)
  gives a = record { number = λ r e. never cc }

  pub refuses : (r : Refusal) → known r.number ≡ true → Numbered {A = A} (refused r)
  refuses r k = record { number = λ q e. let f : r ≡ q = cc in rw f at k }

  pub chosen : (b : Bool) {x y : Outcome A} → Numbered x → Numbered y → Numbered (when b then x else y)
  chosen b p q = either Numbered b p q

pub required : (b : Bool) (n : ℕ) (p : Span) → known n ≡ true → Numbered (require b n p)
required true n p k = gives tt
required false n p k = refuses _ k

module _ {A B : Type 0} where
  pub bound : (o : Outcome A) (f : A → Outcome B) → Numbered o → ((a : A) → Numbered (f a)) → Numbered (o >>= f)
  bound (ok a) f p q = q a
  bound (refused r) f p q = refuses r (p.number r refl)

  pub needed : (x : Option A) (n : ℕ) (p : Span) (f : A → Outcome B) → known n ≡ true → ((a : A) → Numbered (f a)) → Numbered (need x n p f)
  unfolding need
  needed none n p f k q = refuses _ k
  needed (some a) n p f k q = q a
