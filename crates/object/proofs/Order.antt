-- What the comparison of two names says of their order. Assumes nothing.
use mathlib.Core.Path.{◌≡◌, refl, sym, ◌∙◌}
use mathlib.Core.Bool.{Bool, true, false}
use mathlib.Core.Logic.{inl, inr}
use mathlib.Core.List.{List, [], ◌∷◌}
use Prim.Native.Nat.{ℕ}
use native.Mathlib.Omega.{arith}
use lib.Dec.{ltb}
use borrow.Author.Tests.{ltb-true, ltb-false}
use Rattle.rules.specs.Base.{when◌then◌else◌}
use Rattle.rules.specs.Tables.{Before}
use Rattle.base_text.specs.Names.{ordered}
use Rattle.std.specs.declared.cmp.Ordering.{Ordering}
use Rattle.std.specs.declared.cmp.Ordering.TheVariants.{Less, Equal, Greater}

-- what each answer of the comparison says
abbrev pub Meaning : List ℕ → List ℕ → Ordering → Type 0
Meaning a b Less = Before a b
Meaning a b Equal = a ≡ b
Meaning a b Greater = Before b a

pub meaning : (a b : List ℕ) → Meaning a b (ordered a b)
unfolding ordered when◌then◌else◌
meaning [] [] = refl
meaning [] (y ∷ b) = tt
meaning (x ∷ a) [] = tt
meaning (x ∷ a) (y ∷ b) = go (ltb x y) refl (ltb y x) refl (ordered a b) (meaning a b)
  where
    go : (s : Bool) → ltb x y ≡ s → (t : Bool) → ltb y x ≡ t → (o : Ordering) → Meaning a b o → Meaning (x ∷ a) (y ∷ b) (when s then Less else when t then Greater else o)
    go true p t q o m = inl (ltb-true x y p)
    go false p true q o m = inl (ltb-true y x q)
    go false p false q Less m = inr ((let l = ltb-false x y p in let k = ltb-false y x q in omega arith), m)
    go false p false q Equal m = (let l = ltb-false x y p in let k = ltb-false y x q in let e : x ≡ y = omega arith in λ i. e i ∷ m i)
    go false p false q Greater m = inr ((let l = ltb-false x y p in let k = ltb-false y x q in omega arith), m)

pub is-less : (a b : List ℕ) {r : Ordering} → r ≡ ordered a b → r ≡ Less → Before a b
is-less a b e q = rw (sym e ∙ q) at (meaning a b)

pub is_same : (a b : List ℕ) {r : Ordering} → r ≡ ordered a b → r ≡ Equal → a ≡ b
is_same a b e q = rw (sym e ∙ q) at (meaning a b)

pub is_greater : (a b : List ℕ) {r : Ordering} → r ≡ ordered a b → r ≡ Greater → Before b a
is_greater a b e q = rw (sym e ∙ q) at (meaning a b)
