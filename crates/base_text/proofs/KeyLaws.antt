-- Keys are in the order of their bytes: one law for any width, and two names one key on. Assumes nothing.
use Prim.Native.Nat.{ℕ, ◌+◌, ◌-◌, ◌*◌, ◌<◌, ◌≤◌}
use mathlib.Core.Path.{◌≡◌, refl, sym, ◌∙◌, ap}
use mathlib.Core.Bool.{Bool, true, false}
use mathlib.Core.List.{List}
use native.Mathlib.Omega.{arith}
use lib.Dec.{ltb}
use lib.ListN.{length, get_or}
use borrow.Author.Tests.{ltb-true, ltb-false}
use Rattle.base_text.specs.Runs.{from}
use Rattle.base_text.specs.Names.{ordered}
use Rattle.base_text.specs.Keys.{two_at, four_at, key_at}
use Rattle.std.specs.declared.cmp.Ordering.{Ordering}
use Rattle.std.specs.declared.cmp.Ordering.TheVariants.{Less, Greater}
use Rattle.base_text.proofs.Rest.{from_start}
use Rattle.std.specs.Ordering.{nat_cmp}
use Rattle.base_text.proofs.NameLaws.{cmp_says, map_from, map_same, order-less, order-greater, order-go}

-- x and y tell the order o; where they are the same, the order is that of what comes after
pub record Ranks (x y : ℕ) (o after : Ordering) : Type 0 where
  pub less : x < y → o ≡ Less
  pub more : y < x → o ≡ Greater
  pub same : x ≡ y → o ≡ after

-- ONE LAW FOR ANY WIDTH: a number below n is put behind each
module _ {n : ℕ} (carry : (p q : ℕ) → p < q → p * n + n ≤ q * n) {p q x y : ℕ} {o m e : Ordering} (f : Ranks p q o m) (g : Ranks x y m e) (l : x < n) (k : y < n) where
  pub joined : Ranks (p * n + x) (q * n + y) o e
  joined = go (ltb p q) refl (ltb q p) refl
    where
      go : (s : Bool) → ltb p q ≡ s → (t : Bool) → ltb q p ≡ t → Ranks (p * n + x) (q * n + y) o e
      go true c t d =
          let h = ltb-true p q c in
          let z = carry p q h in
          record { less = λ u. f.less h; more = λ u. absurd (omega arith); same = λ u. absurd (omega arith) }
      go false c true d =
          let h = ltb-true q p d in
          let z = carry q p h in
          record { less = λ u. absurd (omega arith); more = λ u. f.more h; same = λ u. absurd (omega arith) }
      go false c false d =
          let h : p ≡ q = omega (arith, ltb-false p q c, ltb-false q p d) in
          let z : p * n ≡ q * n = ap (λ (i : ℕ). i * n) h in
          record { less = λ u. f.same h ∙ g.less (omega arith); more = λ u. f.same h ∙ g.more (omega arith); same = λ u. f.same h ∙ g.same (omega arith) }

-- as the code makes them
module _ (s : List ℕ) (i : ℕ) {x y : ℕ} where
  pub two_is : x ≡ get_or s i 0 → y ≡ get_or s (i + 1) 0 → x * 256 + y ≡ two_at s i
  unfolding two_at
  two_is p q = rw (p, q) refl

  pub four_is : {z : ℕ} → x ≡ two_at s i → y ≡ get_or s (i + 2) 0 → z ≡ get_or s (i + 3) 0 → x * 65536 + y * 256 + z ≡ four_at s i
  unfolding four_at two_at
  four_is {z} p q r =
      let e : i + 2 + 1 ≡ i + 3 = omega arith in
      let t : z ≡ get_or s (i + 2 + 1) 0 = r ∙ rw e refl in
      omega (arith, p, q, t)

  pub key-is : x ≡ four_at s i → y ≡ four_at s (i + 4) → x * 4294967296 + y ≡ key_at s i
  unfolding key_at
  key-is p q = rw (p, q) refl

-- NUMBERS OF BYTES ARE SMALL

module _ (s : List ℕ) (v : (k : ℕ) → get_or s k 0 < 256) where
  pub two-low : (i : ℕ) → two_at s i < 65536
  unfolding two_at
  two-low i = omega (arith, v i, v (i + 1))

  pub four_low : (i : ℕ) → four_at s i < 4294967296
  unfolding four_at
  four_low i = omega (arith, two-low i, two-low (i + 2))

-- the order of what is left
abbrev pub order_at : List ℕ → List ℕ → ℕ → Ordering
order_at a b i = ordered (map_from (λ x. x) a i) (map_from (λ x. x) b i)

module _ (a b : List ℕ) (va : (k : ℕ) → get_or a k 0 < 256) (vb : (k : ℕ) → get_or b k 0 < 256) where
  byte-ranks : (i : ℕ) → i < length a → i < length b → Ranks (get_or a i 0) (get_or b i 0) (order_at a b i) (order_at a b (i + 1))
  byte-ranks i h k = record {
    less = λ u. order-less (λ x. x) a b i h k refl refl u;
    more = λ u. order-greater (λ x. x) a b i h k refl refl u (omega arith);
    same = λ u. order-go (λ x. x) a b i h k refl refl (omega arith) (omega arith);
  }

  pub two-ranks : (i : ℕ) → i + 2 ≤ length a → i + 2 ≤ length b → Ranks (two_at a i) (two_at b i) (order_at a b i) (order_at a b (i + 2))
  unfolding two_at
  two-ranks i h k =
      let z : i + 1 + 1 ≡ i + 2 = omega arith in
      joined (λ p q l. omega arith) (byte-ranks i (omega arith) (omega arith)) (rw z at (byte-ranks (i + 1) (omega arith) (omega arith))) (va (i + 1)) (vb (i + 1))

  pub four-ranks : (i : ℕ) → i + 4 ≤ length a → i + 4 ≤ length b → Ranks (four_at a i) (four_at b i) (order_at a b i) (order_at a b (i + 4))
  unfolding four_at
  four-ranks i h k =
      let z : i + 2 + 2 ≡ i + 4 = omega arith in
      joined (λ p q l. omega arith) (two-ranks i (omega arith) (omega arith)) (rw z at (two-ranks (i + 2) (omega arith) (omega arith))) (two-low a va (i + 2)) (two-low b vb (i + 2))

  pub key-ranks : (i : ℕ) → i + 8 ≤ length a → i + 8 ≤ length b → Ranks (key_at a i) (key_at b i) (order_at a b i) (order_at a b (i + 8))
  unfolding key_at
  key-ranks i h k =
      let z : i + 4 + 4 ≡ i + 8 = omega arith in
      joined (λ p q l. omega arith) (four-ranks i (omega arith) (omega arith)) (rw z at (four-ranks (i + 4) (omega arith) (omega arith))) (four_low a va (i + 4)) (four_low b vb (i + 4))

-- WHAT IS LEFT OF TWO NAMES, n bytes on
rest : (a b : List ℕ) (i : ℕ) → ordered (from a i) (from b i) ≡ order_at a b i
rest a b i = sym (simp map_same)

module _ (a b : List ℕ) (at n : ℕ) {x y : ℕ} (f : Ranks x y (order_at a b at) (order_at a b (at + n))) where
  pub rest_met : (x ≡ y → ⊥) → nat_cmp x y ≡ ordered (from a at) (from b at)
  rest_met n = cmp_says x y (ordered (from a at) (from b at)) (λ (u : x < y). rest a b at ∙ f.less u) (λ (u : y < x). rest a b at ∙ f.more u) n

  pub rest-next : x ≡ y → {o : Ordering} → o ≡ ordered (from a (at + n)) (from b (at + n)) → o ≡ ordered (from a at) (from b at)
  rest-next u e = e ∙ (rest a b (at + n) ∙ sym (rest a b at ∙ f.same u))

module _ (a b : List ℕ) (va : (k : ℕ) → get_or a k 0 < 256) (vb : (k : ℕ) → get_or b k 0 < 256) (at shared : ℕ) (la : shared ≤ length a) (lb : shared ≤ length b) {x y : ℕ} where
  pub two-left : 2 ≤ shared - at → x ≡ two_at a at → y ≡ two_at b at → Ranks x y (order_at a b at) (order_at a b (at + 2))
  two-left l p q = rw (p, q) (two-ranks a b va vb at (omega arith) (omega arith))

  pub four-left : 4 ≤ shared - at → x ≡ four_at a at → y ≡ four_at b at → Ranks x y (order_at a b at) (order_at a b (at + 4))
  four-left l p q = rw (p, q) (four-ranks a b va vb at (omega arith) (omega arith))

-- TWO NAMES, one key on: up to i they are the same

pub record AlikeTo (a b : List ℕ) (shared i : ℕ) : Type 0 where
  pub within : i ≤ shared
  pub same : order_at a b i ≡ ordered a b

pub alike-none : (a b : List ℕ) (shared : ℕ) → AlikeTo a b shared 0
alike-none a b shared = record { within = omega arith; same = simp (from_start, map_same) }

module _ {a b : List ℕ} {shared i : ℕ} (f : AlikeTo a b shared i) where
  pub alike-rest : (o : Ordering) → o ≡ ordered (from a i) (from b i) → o ≡ ordered a b
  alike-rest o e = e ∙ (sym (simp map_same) ∙ f.same)

  module _ (va : (k : ℕ) → get_or a k 0 < 256) (vb : (k : ℕ) → get_or b k 0 < 256) (la : shared ≤ length a) (lb : shared ≤ length b) (l : 8 ≤ shared - i) {x y : ℕ} (p : x ≡ key_at a i) (q : y ≡ key_at b i) where
    ranks : Ranks x y (order_at a b i) (order_at a b (i + 8))
    ranks = rw (p, q) (key-ranks a b va vb i (omega arith) (omega arith))

    pub alike-met : (x ≡ y → ⊥) → nat_cmp x y ≡ ordered a b
    alike-met n = cmp_says x y (ordered a b) (λ (u : x < y). sym f.same ∙ ranks.less u) (λ (u : y < x). sym f.same ∙ ranks.more u) n

    pub alike-less : x < y → Less ≡ ordered a b
    alike-less u = sym (ranks.less u) ∙ f.same

    pub alike_next : x ≡ y → AlikeTo a b shared (i + 8)
    alike_next u = record { within = omega arith; same = sym (ranks.same u) ∙ f.same }
