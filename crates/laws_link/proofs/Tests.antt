-- What the two tests of a link say: `shared` that the objects hold a common address, `agree` that they define no name at two addresses. Assumes nothing.
use mathlib.Core.Path.{◌≡◌, refl, sym, ◌∙◌, ap}
use mathlib.Core.Bool.{Bool, true, false, ◌&&◌, ◌||◌, not}
use mathlib.Core.Logic.{inl, inr}
use mathlib.Core.Option.{Option, none, some}
use mathlib.Core.List.{List, [], ◌∷◌, Memᴰ}
use Prim.Native.Nat.{ℕ, ◌+◌, ◌≤◌, ◌<◌}
use native.Mathlib.Decide.{dec_le, dec_lt}
use native.Mathlib.Omega.{arith}
use lib.Dec.{eqb, ltb}
use lib.ListN.{length}
use borrow.Author.Tests.{ltb-true, lt-ltb, eqb-true, eqb-false, not-true, not-false}
use Rattle.rules.specs.Base.{ok, refused, Refusal, ◌>>◌, require, span}
use Rattle.rules.specs.Tables.{Tri, less, same, more, Table, look, Sorted, name_order, any}
use Rattle.rules.specs.Objects.{Cell, Lab, outer, defined, Name, Object, heads, Full}
use Rattle.rules.specs.Passes.{ranges_overlap}
use Rattle.rules.specs.Linking.{meets, shared, differ, agree}
use Rattle.rules.proofs.Bools.{never, and_left, and_right}
use Rattle.rules.proofs.Tables.{look-here, look-there, look-low, lt-ne, none-some}
use Rattle.rules.proofs.Chains.{Within, held_in, in_held}
use Rattle.laws_link.specs.Joins.{Overlap}
use Rattle.laws_link.proofs.Mapped.{any-true, any-mem}
use Rattle.laws_link.proofs.Blocks.{Past, Apart, AllApart}

-- A COMMON ADDRESS

-- each starts before the other ends
pub ranges-true : (a n b m : ℕ) → ranges_overlap a n b m ≡ true → (a < b + m) × (b < a + n)
unfolding ranges_overlap
ranges-true a n b m e =
    (ltb-true a (b + m) (and_left (ltb a (b + m)) (ltb b (a + n)) e), ltb-true b (a + n) (and_right (ltb a (b + m)) (ltb b (a + n)) e))

pub true-ranges : (a n b m : ℕ) → a < b + m → b < a + n → ranges_overlap a n b m ≡ true
unfolding ranges_overlap
true-ranges a n b m h k = ap (λ (t : Bool). t && ltb b (a + n)) (lt-ltb a (b + m) h) ∙ lt-ltb b (a + n) k

-- the test needs only the starts and lengths
pub shared-heads : (a b : Object) → shared a b ≡ any (λ h. any (λ g. ranges_overlap h.0 h.1 g.0 g.1) (heads b.blocks)) (heads a.blocks)
unfolding shared meets
shared-heads a b = outside a.blocks
  where
    inside : (x : ℕ × List Cell) (t : Table ℕ (List Cell)) → any (meets x) t ≡ any (λ g. ranges_overlap x.0 (length x.1) g.0 g.1) (heads t)
    inside x [] = refl
    inside x (y ∷ t) = ap (λ (r : Bool). ranges_overlap x.0 (length x.1) y.0 (length y.1) || r) (inside x t)

    outside : (s : Table ℕ (List Cell)) → any (λ x. any (meets x) b.blocks) s ≡ any (λ h. any (λ g. ranges_overlap h.0 h.1 g.0 g.1) (heads b.blocks)) (heads s)
    outside [] = refl
    outside (x ∷ s) = let p = inside x b.blocks in let q = outside s in λ i. p i || q i

full-mem : (b : Table ℕ (List Cell)) (d : ℕ × List Cell) → Full b → Memᴰ d b → 0 < length d.1
full-mem [] d f xp = elim xp [ ]
full-mem (e ∷ b) d f (Memᴰ.head q) = rw q f.0
full-mem (e ∷ b) d f (Memᴰ.tail m) = full-mem b d f.1 m

module _ (a b : Object) where
  pub overlap-shared : Overlap a b → shared a b ≡ true
  unfolding shared meets
  overlap-shared w =
      let u = held_in a.blocks w.0 w.1 w.3 in
      let v = held_in b.blocks w.0 w.2 w.4 in
      let h : u.0.0 < v.0.0 + length v.0.1 = omega (arith, u.2.0, v.2.1) in
      let k : v.0.0 < u.0.0 + length u.0.1 = omega (arith, u.2.1, v.2.0) in
      any-mem (λ x. any (meets x) b.blocks) u.0 u.1
      (any-mem (meets u.0) v.0 v.1 (true-ranges u.0.0 (length u.0.1) v.0.0 (length v.0.1) h k))

  pub shared-overlap : Full a.blocks → Full b.blocks → shared a b ≡ true → Overlap a b
  unfolding shared meets
  shared-overlap f g e =
      let u = any-true (λ x. any (meets x) b.blocks) a.blocks e in
      let v = any-true (meets u.0) b.blocks u.2 in
      let r = ranges-true u.0.0 (length u.0.1) v.0.0 (length v.0.1) v.2 in
      go u.0 u.1 v.0 v.1 r.0 r.1 (dec_le u.0.0 v.0.0)
    where
      at : (d : ℕ × List Cell) → Memᴰ d a.blocks → (c : ℕ × List Cell) → Memᴰ c b.blocks → (x : ℕ) → Within x d → Within x c → Overlap a b
      at d m c n x h k =
          let u = in_held a.blocks x d m h in
          let v = in_held b.blocks x c n k in
          (x, u.0, v.0, u.1, v.1)

      go : (d : ℕ × List Cell) → Memᴰ d a.blocks → (c : ℕ × List Cell) → Memᴰ c b.blocks → d.0 < c.0 + length c.1 → c.0 < d.0 + length d.1 → Dec (d.0 ≤ c.0) → Overlap a b
      go d m c n p q (yes h) = at d m c n c.0 (h, q) (omega arith, omega (arith, full-mem b.blocks c g n))
      go d m c n p q (no h) = at d m c n d.0 (omega arith, omega (arith, full-mem a.blocks d f m)) (omega arith, p)

  -- where none is shared, every block of the one is apart from every block of the other
  pub shared-apart : shared a b ≡ false → AllApart a.blocks b.blocks
  unfolding shared meets
  shared-apart e = all a.blocks (λ d m. one d b.blocks (λ c n. apart d c (λ (h : ranges_overlap d.0 (length d.1) c.0 (length c.1) ≡ true).
      let z = any-mem (λ x. any (meets x) b.blocks) d m (any-mem (meets d) c n h) in
      never cc)))
    where
      apart : (d c : ℕ × List Cell) → (ranges_overlap d.0 (length d.1) c.0 (length c.1) ≡ true → ⊥) → Past d c
      apart d c n = go (dec_lt d.0 (c.0 + length c.1)) (dec_lt c.0 (d.0 + length d.1))
        where
          go : Dec (d.0 < c.0 + length c.1) → Dec (c.0 < d.0 + length d.1) → Past d c
          go (yes h) (yes k) = absurd (n (true-ranges d.0 (length d.1) c.0 (length c.1) h k))
          go (yes h) (no k) = inl (omega arith)
          go (no h) k = inr (omega arith)

      one : (d : ℕ × List Cell) (t : Table ℕ (List Cell)) → ((c : ℕ × List Cell) → Memᴰ c t → Past d c) → Apart d t
      one d [] h = tt
      one d (c ∷ t) h = (h c (Memᴰ.head refl), one d t (λ e m. h e (Memᴰ.tail m)))

      all : (s : Table ℕ (List Cell)) → ((d : ℕ × List Cell) → Memᴰ d s → Apart d b.blocks) → AllApart s b.blocks
      all [] h = tt
      all (d ∷ s) h = (h d (Memᴰ.head refl), all s (λ e m. h e (Memᴰ.tail m)))

-- ONE NAME AT TWO ADDRESSES

-- two values that a name may have are addresses that differ
abbrev Far : Lab → Option Lab → Type 0
Far v w = (a : ℕ) × (b : ℕ) × (v ≡ defined a) × (w ≡ some (defined b)) × (a ≡ b → ⊥)

differ-far : (v : Lab) (w : Option Lab) → differ v w ≡ true → Far v w
unfolding differ
differ-far outer w e = never cc
differ-far (defined a) none e = never cc
differ-far (defined a) (some outer) e = never cc
differ-far (defined a) (some (defined b)) e = (a, b, refl, refl, eqb-false a b (not-true (eqb a b) e))

near : (v : Lab) (w : Option Lab) (a b : ℕ) → differ v w ≡ false → v ≡ defined a → w ≡ some (defined b) → a ≡ b
unfolding differ
near outer w a b e p q = never cc
near (defined c) none a b e p q = never cc
near (defined c) (some outer) a b e p q = never cc
near (defined c) (some (defined d)) a b e p q =
    let i : c ≡ a = cc in
    let j : d ≡ b = cc in
    let k = eqb-true c d (not-false (eqb c d) e) in
    cc

-- a name of both tables whose addresses differ
abbrev pub DifferAt : Table Name Lab → Table Name Lab → Type 0
DifferAt s t = (n : Name) × (a : ℕ) × (b : ℕ) × (look name_order s n ≡ some (defined a)) × (look name_order t n ≡ some (defined b)) × (a ≡ b → ⊥)

-- a refusal is 25, and tells such a name
pub agree-refused : (r : ℕ) (s t : Table Name Lab) (x : Refusal) → Sorted name_order s → agree r s t ≡ refused x → (x.number ≡ 25) × DifferAt s t
unfolding agree
agree-refused r [] t x u e = never cc
agree-refused r (d ∷ s) t x u e = go (differ d.1 (look name_order t d.0)) refl e (agree-refused (r + 1) s t x u.1)
  where
    go : (b : Bool) → differ d.1 (look name_order t d.0) ≡ b → (require (not b) 25 (span r (r + 1)) >> agree (r + 1) s t) ≡ refused x
        → (agree (r + 1) s t ≡ refused x → (x.number ≡ 25) × DifferAt s t) → (x.number ≡ 25) × DifferAt (d ∷ s) t
    go true q e ih =
        let w = differ-far d.1 (look name_order t d.0) q in
        let z : record { number = 25; first = span r (r + 1); second = span 0 0 } ≡ x = cc in
        (sym (ap (λ (y : Refusal). y.number) z), (d.0, w.0, w.1, look-here name_order d s d.0 refl ∙ ap (λ (v : Lab). some v) w.2, w.3, w.4))
    go false q e ih =
        let w = ih e in
        let n : (w.1.0 ≡ d.0 → ⊥) = (λ p. none-some (sym (look-low name_order d.0 s u.0) ∙ (ap (look name_order s) (sym p) ∙ w.1.3))) in
        (w.0, (w.1.0, w.1.1, w.1.2, look-there name_order d s w.1.0 n ∙ w.1.3, w.1.4, w.1.5))

-- where there is none, no name's addresses differ
pub agree-ok : (r : ℕ) (s t : Table Name Lab) → agree r s t ≡ ok tt → DifferAt s t → ⊥
unfolding agree
agree-ok r [] t e w = none-some w.3
agree-ok r (d ∷ s) t e w = go (differ d.1 (look name_order t d.0)) refl e (agree-ok (r + 1) s t) (name_order.tri w.0 d.0)
  where
    later : (w.0 ≡ d.0 → ⊥) → agree (r + 1) s t ≡ ok tt → (agree (r + 1) s t ≡ ok tt → DifferAt s t → ⊥) → ⊥
    later n e ih = ih e (w.0, w.1, w.2, sym (look-there name_order d s w.0 n) ∙ w.3, w.4, w.5)

    go : (b : Bool) → differ d.1 (look name_order t d.0) ≡ b → (require (not b) 25 (span r (r + 1)) >> agree (r + 1) s t) ≡ ok tt
        → (agree (r + 1) s t ≡ ok tt → DifferAt s t → ⊥) → Tri name_order.lt w.0 d.0 → ⊥
    go true q e ih c = never cc
    go false q e ih (less h) = later (lt-ne name_order w.0 d.0 h) e ih
    go false q e ih (same p) =
        let v : some d.1 ≡ some (defined w.1) = sym (look-here name_order d s w.0 p) ∙ w.3 in
        let i : d.1 ≡ defined w.1 = cc in
        w.5 (near d.1 (look name_order t d.0) w.1 w.2 q i (ap (look name_order t) (sym p) ∙ w.4))
    go false q e ih (more h) = later (λ (p : w.0 ≡ d.0). lt-ne name_order d.0 w.0 h (sym p)) e ih
