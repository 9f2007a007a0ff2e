-- Two names, one byte on. Assumes nothing.
use Prim.Native.Nat.{ℕ, suc, ◌+◌, ◌<◌, ◌≤◌, min}
use mathlib.Core.Path.{◌≡◌, refl, sym, ◌∙◌, ap}
use mathlib.Core.Bool.{Bool, true, false, ◌&&◌}
use mathlib.Core.List.{List, [], ◌∷◌, map}
use lib.Dec.{eqb}
use native.Mathlib.Omega.{arith}
use lib.ListN.{length, get_or}
use lib.Dec.{ltb}
use borrow.Author.Tests.{lt-ltb, le-ltb, eq-eqb, ne_eqb, ltb-true, ltb-false}
use Rattle.rules.specs.Base.{when◌then◌else◌, same}
use Rattle.rules.specs.Tokens.{upper}
use Rattle.base_text.specs.Runs.{from}
use Rattle.base_text.specs.Names.{ordered}
use Rattle.std.specs.Ordering.{nat_cmp}
use Rattle.std.specs.declared.cmp.Ordering.{Ordering}
use Rattle.std.specs.declared.cmp.Ordering.TheVariants.{Less, Equal, Greater}
use Rattle.base_text.proofs.Rest.{from_step, from_end}

-- what is left, each byte by f: in upper case, or as it stands
abbrev pub map_from : (ℕ → ℕ) → List ℕ → ℕ → List ℕ
map_from f s i = map f (from s i)

module _ (f : ℕ → ℕ) (a b : List ℕ) (i : ℕ) where
  module _ {x y : ℕ} (h : i < length a) (k : i < length b) (p : x ≡ f (get_or a i 0)) (q : y ≡ f (get_or b i 0)) where
    pub same-go : x ≡ y → same (map_from f a i) (map_from f b i) ≡ same (map_from f a (i + 1)) (map_from f b (i + 1))
    same-go e = rw (from_step a i h, from_step b i k, ← p, ← q, eq-eqb x y e)

    pub same_stop : (x ≡ y → ⊥) → same (map_from f a i) (map_from f b i) ≡ false
    same_stop n = rw (from_step a i h, from_step b i k, ← p, ← q, ne_eqb x y n)

    pub order-less : x < y → ordered (map_from f a i) (map_from f b i) ≡ Less
    unfolding ordered when◌then◌else◌
    order-less l = rw (from_step a i h, from_step b i k, ← p, ← q, lt-ltb x y l)

    pub order-greater : y < x → y ≤ x → ordered (map_from f a i) (map_from f b i) ≡ Greater
    unfolding ordered when◌then◌else◌
    order-greater l m = rw (from_step a i h, from_step b i k, ← p, ← q, le-ltb x y m, lt-ltb y x l)

    pub order-go : x ≤ y → y ≤ x → ordered (map_from f a i) (map_from f b i) ≡ ordered (map_from f a (i + 1)) (map_from f b (i + 1))
    unfolding ordered when◌then◌else◌
    order-go l m = rw (from_step a i h, from_step b i k, ← p, ← q, le-ltb x y m, le-ltb y x l)

  pub same_end : length a ≤ i → length b ≤ i → same (map_from f a i) (map_from f b i) ≡ true
  same_end h k = rw (from_end a i h, from_end b i k)

  pub order-short : length a ≤ i → i < length b → ordered (map_from f a i) (map_from f b i) ≡ Less
  unfolding ordered
  order-short h k = rw (from_end a i h, from_step b i k)

  pub order-long : i < length a → length b ≤ i → ordered (map_from f a i) (map_from f b i) ≡ Greater
  unfolding ordered
  order-long h k = rw (from_step a i h, from_end b i k)

  pub order-end : length a ≤ i → length b ≤ i → ordered (map_from f a i) (map_from f b i) ≡ Equal
  unfolding ordered
  order-end h k = rw (from_end a i h, from_end b i k)

-- HOW TWO NUMBERS STAND TO EACH OTHER

pub cmp-less : (x y : ℕ) → x < y → nat_cmp x y ≡ Less
cmp-less x y l = rw (lt-ltb x y l)

pub cmp-more : (x y : ℕ) → y < x → nat_cmp x y ≡ Greater
cmp-more x y l = rw (le-ltb x y (omega arith), ne_eqb x y (λ (e : x ≡ y). omega arith))

pub cmp-same : (x y : ℕ) → x ≡ y → nat_cmp x y ≡ Equal
cmp-same x y e = rw (le-ltb x y (omega arith), eq-eqb x y e)

-- what two numbers that differ say of an order
pub cmp_says : (x y : ℕ) (o : Ordering) → (x < y → o ≡ Less) → (y < x → o ≡ Greater) → (x ≡ y → ⊥) → nat_cmp x y ≡ o
cmp_says x y o less more n = go (ltb x y) refl
  where
    go : (s : Bool) → ltb x y ≡ s → nat_cmp x y ≡ o
    go true p = (let l = ltb-true x y p in cmp-less x y l ∙ sym (less l))
    go false p = (let k = ltb-false x y p in let l : y < x = omega arith in cmp-more x y l ∙ sym (more l))

-- as the loops meet them
module _ (f : ℕ → ℕ) (a b : List ℕ) {i : ℕ} {x y : ℕ} (p : x ≡ f (get_or a i 0)) (q : y ≡ f (get_or b i 0)) (h : i < length a) (k : i < length b) where
  module _ {z : Bool} (g : same (map_from f a i) (map_from f b i) ≡ z) where
    pub same-again : x ≡ y → same (map_from f a (i + 1)) (map_from f b (i + 1)) ≡ z
    same-again e = sym (same-go f a b i h k p q e) ∙ g

    pub same_differs : (x ≡ y → ⊥) → false ≡ z
    same_differs e = sym (same_stop f a b i h k p q e) ∙ g

  module _ {z : Ordering} (g : ordered (map_from f a i) (map_from f b i) ≡ z) where
    pub order_met : (x ≡ y → ⊥) → nat_cmp x y ≡ z
    order_met n =
        cmp_says x y z (λ (l : x < y). sym g ∙ order-less f a b i h k p q l) (λ (l : y < x). sym g ∙ order-greater f a b i h k p q l (omega arith)) n

    pub order-again : x ≡ y → ordered (map_from f a (i + 1)) (map_from f b (i + 1)) ≡ z
    order-again e = sym (order-go f a b i h k p q (omega arith) (omega arith)) ∙ g

module _ (f : ℕ → ℕ) (a b : List ℕ) {i : ℕ} where
  pub same-done : {z : Bool} → length a ≡ length b → length a ≤ i → same (map_from f a i) (map_from f b i) ≡ z → true ≡ z
  same-done n h g = sym (same_end f a b i h (omega arith)) ∙ g

  -- the bytes that both have are the same
  pub order_done : {z : Ordering} → i ≤ length a → i ≤ length b → min (length a) (length b) ≤ i → ordered (map_from f a i) (map_from f b i) ≡ z
      → nat_cmp (length a) (length b) ≡ z
  order_done {z} h k m g = go (ltb (length a) (length b)) refl
    where
      last : (s : Bool) → ltb (length b) (length a) ≡ s → length b ≤ length a → nat_cmp (length a) (length b) ≡ z
      last true p l = (let u = ltb-true (length b) (length a) p in cmp-more (length a) (length b) u ∙ (sym (order-long f a b i (omega arith) (omega arith)) ∙ g))
      last false p l =
          let u = ltb-false (length b) (length a) p in
          let e : length a ≡ length b = omega arith in
          cmp-same (length a) (length b) e ∙ (sym (order-end f a b i (omega arith) (omega arith)) ∙ g)

      go : (s : Bool) → ltb (length a) (length b) ≡ s → nat_cmp (length a) (length b) ≡ z
      go true p = (let l = ltb-true (length a) (length b) p in cmp-less (length a) (length b) l ∙ (sym (order-short f a b i (omega arith) (omega arith)) ∙ g))
      go false p =
          let l = ltb-false (length a) (length b) p in
          last (ltb (length b) (length a)) refl l

-- names of different lengths are not the same
pub same-lengths : (a b : List ℕ) → (length a ≡ length b → ⊥) → same (map upper a) (map upper b) ≡ false
same-lengths [] [] n = absurd (n refl)
same-lengths [] (y ∷ ys) n = refl
same-lengths (x ∷ xs) [] n = refl
same-lengths (x ∷ xs) (y ∷ ys) n = both (eqb (upper x) (upper y)) (same-lengths xs ys (λ e. n (ap suc e)))
  where
    both : (t : Bool) → same (map upper xs) (map upper ys) ≡ false → (t && same (map upper xs) (map upper ys)) ≡ false
    both true e = e
    both false e = refl

-- a name as it stands
pub map_same : (s : List ℕ) → map (λ x. x) s ≡ s
map_same [] = refl
map_same (x ∷ s) = ap (λ (t : List ℕ). x ∷ t) (map_same s)
