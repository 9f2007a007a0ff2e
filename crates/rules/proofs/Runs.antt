-- The words of blocks by address: runs of them, and tables one behind another. Assumes nothing.
use mathlib.Core.Path.{◌≡◌, refl, sym, ◌∙◌}
use mathlib.Core.Logic.{◌⊎◌, inl, inr}
use mathlib.Core.Option.{Option, none, some}
use mathlib.Core.List.{List, [], ◌∷◌, ◌++◌}
use Prim.Native.Nat.{ℕ, suc, ◌+◌, ◌≤◌, ◌<◌}
use native.Mathlib.Omega.{arith}
use lib.ListN.{length}
use Rattle.rules.specs.Tables.{Tri, less, same, more, Order, Table, pick, look, Low, Sorted, nat_order}
use Rattle.rules.specs.Objects.{Cell, cells_from}
use Rattle.rules.proofs.Tables.{look-here, look-there, lt-ne, none-some}

abbrev pub or_else : {A : Type 0} → Option A → Option A → Option A
or_else none v = v
or_else (some u) v = some u

pub look-append : {K U : Type 0} (O : Order K) (s t : Table K U) (k : K) → look O (s ++ t) k ≡ or_else (look O s k) (look O t k)
look-append O [] t k = refl
look-append {U = U} O (e ∷ s) t k = go (look-append O s t k) (O.tri k e.0)
  where
    go : look O (s ++ t) k ≡ or_else (look O s k) (look O t k) → (c : Tri O.lt k e.0) → pick c e.1 (look O (s ++ t) k) ≡ or_else (pick c e.1 (look O s k)) (look O t k)
    go ih (less h) = ih
    go ih (same q) = refl
    go ih (more h) = ih

-- every address of the table is y or more
abbrev pub From : ℕ → Table ℕ Cell → Type 0
From y [] = Unit {0}
From y (e ∷ t) = (y ≤ e.0) × From y t

pub from-down : (y z : ℕ) (t : Table ℕ Cell) → y ≤ z → From z t → From y t
from-down y z [] h f = tt
from-down y z (e ∷ t) h f = (omega arith, from-down y z t h f.1)

from_low : (y : ℕ) (t : Table ℕ Cell) → From (suc y) t → Low nat_order y t
from_low y [] f = tt
from_low y (e ∷ t) f = (f.0, from_low y t f.1)

low-from : (y : ℕ) (t : Table ℕ Cell) → Low nat_order y t → From (suc y) t
low-from y [] f = tt
low-from y (e ∷ t) f = (f.0, low-from y t f.1)

pub from-append : (y : ℕ) (s t : Table ℕ Cell) → From y s → From y t → From y (s ++ t)
from-append y [] t f g = g
from-append y (e ∷ s) t f g = (f.0, from-append y s t f.1 g)

from-left : (y : ℕ) (s t : Table ℕ Cell) → From y (s ++ t) → From y s
from-left y [] t f = tt
from-left y (e ∷ s) t f = (f.0, from-left y s t f.1)

from-right : (y : ℕ) (s t : Table ℕ Cell) → From y (s ++ t) → From y t
from-right y [] t f = f
from-right y (e ∷ s) t f = from-right y s t f.1

pub from-run : (y s : ℕ) (c : List Cell) → y ≤ s → From y (cells_from s c)
from-run y s [] h = tt
from-run y s (x ∷ c) h = (h, from-run y (suc s) c (omega arith))

-- what a table gives stands at an address of it
from-look : (y : ℕ) (t : Table ℕ Cell) → From y t → (x : ℕ) (c : Cell) → look nat_order t x ≡ some c → y ≤ x
from-look y [] f x c q = absurd (none-some q)
from-look y (e ∷ t) f x c q = go (nat_order.tri x e.0) refl (from-look y t f.1 x c)
  where
    go : (r : Tri ◌<◌ x e.0) → nat_order.tri x e.0 ≡ r → (look nat_order t x ≡ some c → y ≤ x) → y ≤ x
    go (less h) r ih = ih (sym (look-there nat_order e t x (lt-ne nat_order x e.0 h)) ∙ q)
    go (same p) r ih = omega (arith, f.0)
    go (more h) r ih = omega (arith, f.0)

pub sorted-run : (s : ℕ) (c : List Cell) (t : Table ℕ Cell) → From (s + length c) t → Sorted nat_order t → Sorted nat_order (cells_from s c ++ t)
sorted-run s [] t f g = g
sorted-run s (x ∷ c) t f g = (
  from_low s (cells_from (suc s) c ++ t)
      (from-append (suc s) (cells_from (suc s) c) t (from-run (suc s) (suc s) c (omega arith)) (from-down (suc s) (s + suc (length c)) t (omega arith) f)),
  sorted-run (suc s) c t (from-down (suc s + length c) (s + suc (length c)) t (omega arith) f) g,
)

pub run-sorted : (s : ℕ) (c : List Cell) (t : Table ℕ Cell) → 0 < length c → Sorted nat_order (cells_from s c ++ t) → From (s + length c) t × Sorted nat_order t
run-sorted s [] t h g = absurd (omega arith)
run-sorted s (x ∷ []) t h g = (from-down (s + 1) (suc s) t (omega arith) (low-from s t g.0), g.1)
run-sorted s (x ∷ y ∷ c) t h g =
    let r = run-sorted (suc s) (y ∷ c) t (omega arith) g.1 in
    (from-down (s + suc (suc (length c))) (suc s + suc (length c)) t (omega arith) r.0, r.1)

-- a run holds map address from its start to its end, and no other
pub in-run : (s : ℕ) (c : List Cell) (x : ℕ) → s ≤ x → x < s + length c → (d : Cell) × (look nat_order (cells_from s c) x ≡ some d)
in-run s [] x h k = absurd (omega arith)
in-run s (a ∷ c) x h k = go (nat_order.tri x s) (λ (m : suc s ≤ x). in-run (suc s) c x m (omega arith))
  where
    go : Tri ◌<◌ x s → (suc s ≤ x → (d : Cell) × (look nat_order (cells_from (suc s) c) x ≡ some d)) → (d : Cell) × (look nat_order (cells_from s (a ∷ c)) x ≡ some d)
    go (less m) ih = absurd (omega arith)
    go (same q) ih = (a, look-here nat_order (s, a) (cells_from (suc s) c) x q)
    go (more m) ih =
        let r = ih m in
        (r.0, look-there nat_order (s, a) (cells_from (suc s) c) x (λ (q : x ≡ s). lt-ne nat_order s x m (sym q)) ∙ r.1)

pub run_in : (s : ℕ) (c : List Cell) (x : ℕ) (d : Cell) → look nat_order (cells_from s c) x ≡ some d → x < s + length c
run_in s [] x d q = absurd (none-some q)
run_in s (a ∷ c) x d q = go (nat_order.tri x s) (run_in (suc s) c x d)
  where
    go : Tri ◌<◌ x s → (look nat_order (cells_from (suc s) c) x ≡ some d → x < suc s + length c) → x < s + suc (length c)
    go (less m) ih = omega arith
    go (same p) ih = omega arith
    go (more m) ih =
        omega (arith, ih (sym (look-there nat_order (s, a) (cells_from (suc s) c) x (λ (p : x ≡ s). lt-ne nat_order s x m (sym p))) ∙ q))

pub run-from : (s : ℕ) (c : List Cell) (x : ℕ) (d : Cell) → look nat_order (cells_from s c) x ≡ some d → s ≤ x
run-from s c x d q = from-look s (cells_from s c) (from-run s s c (omega arith)) x d q

pub or_split : {A : Type 0} (u v : Option A) (a : A) → or_else u v ≡ some a → (u ≡ some a) ⊎ (v ≡ some a)
or_split none v a q = inr q
or_split (some u) v a q = inl q

pub left-some : {A : Type 0} (u v : Option A) (a : A) → u ≡ some a → or_else u v ≡ some a
left-some u v a q = rw q

pub right-some : {A : Type 0} (u v : Option A) (a : A) → v ≡ some a → (b : A) × (or_else u v ≡ some b)
right-some none v a q = (a, q)
right-some (some u) v a q = (u, refl)
