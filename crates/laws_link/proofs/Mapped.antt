-- Laws of tables whose values are changed or sifted, and of a test that some entry passes. Assumes nothing.
use mathlib.Core.Path.{◌≡◌, refl, sym, ◌∙◌, ap}
use mathlib.Core.Bool.{Bool, true, false, ◌||◌}
use mathlib.Core.Option.{Option, none, some}
use mathlib.Core.List.{List, [], ◌∷◌, Memᴰ}
use Prim.Native.Nat.{suc, ◌≤◌}
use native.Mathlib.Omega.{arith}
use lib.ListN.{length}
use Rattle.rules.specs.Tables.{Tri, less, same, more, Order, Table, pick, look, Low, Sorted, newer, map_t, hold, sieve, any}
use Rattle.rules.proofs.Tables.{look-here, look-there, look-low, lt-ne, join}
use Rattle.rules.proofs.Runs.{or_else}
use Rattle.rules.proofs.Bools.{never}

pub join-newer : {A : Type 0} (u v : Option A) → join newer u v ≡ or_else u v
join-newer none v = refl
join-newer (some u) none = refl
join-newer (some u) (some v) = refl

-- VALUES CHANGED

abbrev pub omap : {A B : Type 0} → (A → B) → Option A → Option B
omap f none = none
omap f (some a) = some (f a)

pub look-map : {K U W : Type 0} (O : Order K) (f : K → U → W) (t : Table K U) (k : K) → look O (map_t f t) k ≡ omap (f k) (look O t k)
look-map O f [] k = refl
look-map {U = U} {W = W} O f (e ∷ t) k = go (look-map O f t k) (O.tri k e.0)
  where
    go : look O (map_t f t) k ≡ omap (f k) (look O t k) → (c : Tri O.lt k e.0) → pick c (f e.0 e.1) (look O (map_t f t) k) ≡ omap (f k) (pick c e.1 (look O t k))
    go ih (less h) = ih
    go ih (same q) = rw (← q)
    go ih (more h) = ih

low-map : {K U W : Type 0} (O : Order K) (f : K → U → W) (k : K) (t : Table K U) → Low O k t → Low O k (map_t f t)
low-map O f k [] l = tt
low-map O f k (e ∷ t) l = (l.0, low-map O f k t l.1)

pub sorted-map : {K U W : Type 0} (O : Order K) (f : K → U → W) (t : Table K U) → Sorted O t → Sorted O (map_t f t)
sorted-map O f [] s = tt
sorted-map O f (e ∷ t) s = (low-map O f e.0 t s.0, sorted-map O f t s.1)

pub length-map_t : {K U W : Type 0} (f : K → U → W) (t : Table K U) → length (map_t f t) ≡ length t
length-map_t f [] = refl
length-map_t f (e ∷ t) = ap suc (length-map_t f t)

-- ENTRIES SIFTED

abbrev pub bind : {U : Type 0} → (U → Option U) → Option U → Option U
bind f none = none
bind f (some u) = f u

low-sieve : {K U : Type 0} (O : Order K) (f : U → Option U) (k : K) (t : Table K U) → Low O k t → Low O k (sieve f t)
low-sieve O f k [] l = tt
low-sieve O f k (e ∷ t) l = go (f e.1) (low-sieve O f k t l.1)
  where
    go : (y : Option _) → Low O k (sieve f t) → Low O k (hold e.0 y (sieve f t))
    go none ih = ih
    go (some u) ih = (l.0, ih)

pub sorted-sieve : {K U : Type 0} (O : Order K) (f : U → Option U) (t : Table K U) → Sorted O t → Sorted O (sieve f t)
sorted-sieve O f [] s = tt
sorted-sieve O f (e ∷ t) s = go (f e.1) (sorted-sieve O f t s.1)
  where
    go : (y : Option _) → Sorted O (sieve f t) → Sorted O (hold e.0 y (sieve f t))
    go none ih = ih
    go (some u) ih = (low-sieve O f e.0 t s.0, ih)

pub length-sieve : {K U : Type 0} (f : U → Option U) (t : Table K U) → length (sieve f t) ≤ length t
length-sieve f [] = omega arith
length-sieve f (e ∷ t) = go (f e.1) (length-sieve f t)
  where
    go : (y : Option _) → length (sieve f t) ≤ length t → length (hold e.0 y (sieve f t)) ≤ suc (length t)
    go none ih = omega arith
    go (some u) ih = omega arith

pub look-sieve : {K U : Type 0} (O : Order K) (f : U → Option U) (t : Table K U) → Sorted O t → (k : K) → look O (sieve f t) k ≡ bind f (look O t k)
look-sieve O f [] s k = refl
look-sieve {U = U} O f (e ∷ t) s k = go (f e.1) refl (look-sieve O f t s.1 k) (O.tri k e.0)
  where
    out : (y : Option U) → look O (sieve f t) k ≡ bind f (look O t k) → (k ≡ e.0 → ⊥) → look O (hold e.0 y (sieve f t)) k ≡ bind f (look O (e ∷ t) k)
    out none ih n = ih ∙ ap (bind f) (sym (look-there O e t k n))
    out (some u) ih n = look-there O (e.0, u) (sieve f t) k n ∙ (ih ∙ ap (bind f) (sym (look-there O e t k n)))

    go : (y : Option U) → f e.1 ≡ y → look O (sieve f t) k ≡ bind f (look O t k) → Tri O.lt k e.0 → look O (hold e.0 y (sieve f t)) k ≡ bind f (look O (e ∷ t) k)
    go y q ih (less h) = out y ih (lt-ne O k e.0 h)
    go none q ih (same p) = ih ∙ (ap (bind f) (ap (look O t) p ∙ look-low O e.0 t s.0) ∙ (sym q ∙ ap (bind f) (sym (look-here O e t k p))))
    go (some u) q ih (same p) = look-here O (e.0, u) (sieve f t) k p ∙ (sym q ∙ ap (bind f) (sym (look-here O e t k p)))
    go y q ih (more h) = out y ih (λ (p : k ≡ e.0). lt-ne O e.0 k h (sym p))

-- SOME ENTRY PASSES

module _ {A : Type 0} (p : A → Bool) where
  pub any-true : (l : List A) → any p l ≡ true → (x : A) × Memᴰ x l × (p x ≡ true)
  any-true [] e = never cc
  any-true (y ∷ l) e = go (p y) refl e (any-true l)
    where
      go : (b : Bool) → p y ≡ b → (b || any p l) ≡ true → (any p l ≡ true → (x : A) × Memᴰ x l × (p x ≡ true)) → (x : A) × Memᴰ x (y ∷ l) × (p x ≡ true)
      go true q e ih = (y, Memᴰ.head refl, q)
      go false q e ih = let w = ih e in (w.0, Memᴰ.tail w.1, w.2)

  pub any-mem : (x : A) {l : List A} → Memᴰ x l → p x ≡ true → any p l ≡ true
  any-mem x (Memᴰ.head {xs = xs} q) e = ap (λ (b : Bool). b || any p xs) (ap p (sym q) ∙ e)
  any-mem x (Memᴰ.tail {x = y} {xs = xs} m) e = go (p y) (any-mem x m e)
    where
      go : (b : Bool) → any p xs ≡ true → (b || any p xs) ≡ true
      go true ih = refl
      go false ih = ih
