-- What the walk over two tables of blocks keeps: whether they share an address is what the rest of them says. Assumes nothing.
use mathlib.Core.Path.{◌≡◌, refl, sym, ◌∙◌, ap}
use mathlib.Core.Bool.{Bool, true, false, ◌&&◌, ◌||◌}
use mathlib.Core.List.{List, [], ◌∷◌}
use Prim.Native.Nat.{ℕ, zero, suc, ◌+◌, ◌-◌, ◌≤◌, ◌<◌, suc-le-suc, zero-le}
use native.Mathlib.Omega.{arith}
use lib.Dec.{ltb, leb}
use borrow.Author.Tests.{le-ltb, lt-ltb, leb-true, leb-false}
use Rattle.rules.specs.Tables.{Table, any}
use Rattle.rules.specs.Passes.{ranges_overlap}
use Rattle.rules.specs.Buffers.{tab, head_row, BlocksOk}
use Rattle.rules.proofs.Merging.{rows_from, rows_all, rows_none, rows_next}
use Rattle.object.proofs.Blocks.{starts-up}
use Rattle.link_blocks.specs.Meeting.{BlockRows, before, touch, meeting}

pub blocks-rows : {n w : ℕ} {bs : List ℕ} → BlocksOk n w bs → BlockRows n bs
blocks-rows v = record { room = v.room; rows = v.rows }

-- TESTS

and-false : (a b : Bool) → b ≡ false → (a && b) ≡ false
and-false true b e = e
and-false false b e = refl

before-true : (h g : ℕ × ℕ) → before h g ≡ true → h.0 + h.1 ≤ g.0
before-true h g e = leb-true (h.0 + h.1) g.0 e

before-false : (h g : ℕ × ℕ) → before h g ≡ false → g.0 < h.0 + h.1
before-false h g e = leb-false (h.0 + h.1) g.0 e

pub tells-before : (h g : ℕ × ℕ) (e s : ℕ) → e ≡ h.0 + h.1 → s ≡ g.0 → leb e s ≡ before h g
tells-before h g e s p q = λ i. leb (p i) (q i)

-- one block ends before the other starts
pub touch-before : (h g : ℕ × ℕ) → h.0 + h.1 ≤ g.0 → touch h g ≡ false
unfolding ranges_overlap
touch-before h g l = and-false (ltb h.0 (g.0 + g.1)) (ltb g.0 (h.0 + h.1)) (le-ltb g.0 (h.0 + h.1) l)

pub touch-behind : (h g : ℕ × ℕ) → g.0 + g.1 ≤ h.0 → touch h g ≡ false
unfolding ranges_overlap
touch-behind h g l = ap (λ (b : Bool). b && ltb g.0 (h.0 + h.1)) (le-ltb h.0 (g.0 + g.1) l)

pub touch-both : (h g : ℕ × ℕ) → h.0 < g.0 + g.1 → g.0 < h.0 + h.1 → touch h g ≡ true
unfolding ranges_overlap
touch-both h g l m = ap (λ (b : Bool). b && ltb g.0 (h.0 + h.1)) (lt-ltb h.0 (g.0 + g.1) l) ∙ lt-ltb g.0 (h.0 + h.1) m

module _ {A : Type 0} where
  -- no row passes
  pub any_none : (p : A → Bool) (n : ℕ) (f : ℕ → A) → ((k : ℕ) → k < n → p (f k) ≡ false) → any p (tab n f) ≡ false
  any_none p zero f h = refl
  any_none p (suc n) f h = rw (h 0 (suc-le-suc zero-le)) (any_none p n (λ k. f (suc k)) (λ k l. h (suc k) (suc-le-suc l)))

  -- every row passes both tests or neither
  pub any_same : (p q : A → Bool) (n : ℕ) (f : ℕ → A) → ((k : ℕ) → k < n → p (f k) ≡ q (f k)) → any p (tab n f) ≡ any q (tab n f)
  any_same p q zero f h = refl
  any_same p q (suc n) f h =
      let a = h 0 (suc-le-suc zero-le) in
      let t = any_same p q n (λ k. f (suc k)) (λ k l. h (suc k) (suc-le-suc l)) in
      λ i. a i || t i

-- THE WALK

-- what is left when i rows of the one and j of the other are gone
pub record Left (na : ℕ) (a : List ℕ) (nb : ℕ) (b : List ℕ) (i j : ℕ) : Type 0 where
  pub rows : BlockRows na a
  pub others : BlockRows nb b
  pub first : i ≤ na
  pub second : j ≤ nb
  pub same : meeting (tab na (head_row a)) (tab nb (head_row b)) ≡ meeting (rows_from i na (head_row a)) (rows_from j nb (head_row b))

pub left-all : {na nb : ℕ} {a b : List ℕ} → BlockRows na a → BlockRows nb b → Left na a nb b 0 0
left-all {na} {nb} {a} {b} u v =
    record { rows = u; others = v; first = omega arith; second = omega arith; same = λ i. meeting (sym (rows_all na (head_row a)) i) (sym (rows_all nb (head_row b)) i) }

module _ {na nb i j : ℕ} {a b : List ℕ} (t : Left na a nb b i j) where
  pub left-none : na ≤ i → false ≡ meeting (tab na (head_row a)) (tab nb (head_row b))
  unfolding meeting
  left-none h = sym (t.same ∙ ap (λ (r : Table ℕ ℕ). meeting r (rows_from j nb (head_row b))) (rows_none i na (head_row a) h))

  pub left-none-other : nb ≤ j → false ≡ meeting (tab na (head_row a)) (tab nb (head_row b))
  unfolding meeting rows_from
  left-none-other h =
      sym (t.same ∙ ap (λ (r : Table ℕ ℕ). meeting (rows_from i na (head_row a)) r) (rows_none j nb (head_row b) h)
      ∙ any_none (λ g. any (touch g) []) (na - i) (λ k. head_row a (i + k)) (λ k l. refl))

  module _ (h : i < na) (k : j < nb) {r : Bool} where
    -- the first's block lies before the other, and so before all that follow it
    pub left-first : r ≡ true → r ≡ before (head_row a i) (head_row b j) → Left na a nb b (i + 1) j
    unfolding meeting rows_from
    left-first e p = record {
      rows = t.rows;
      others = t.others;
      first = omega arith;
      second = t.second;
      same =
          t.same ∙ (ap (λ (r : Table ℕ ℕ). meeting r (rows_from j nb (head_row b))) (rows_next i na (head_row a) h)
          ∙ ap (λ (c : Bool). c || meeting (rows_from (i + 1) na (head_row a)) (rows_from j nb (head_row b)))
          (any_none (touch (head_row a i)) (nb - j) (λ x. head_row b (j + x))
          (λ x y. touch-before (head_row a i) (head_row b (j + x)) (let w = starts-up nb b t.others.rows j (j + x) (omega arith) (omega arith) in omega (arith, before-true (head_row a i) (head_row b j) (sym p ∙ e))))));
    }

    pub left-second : r ≡ true → r ≡ before (head_row b j) (head_row a i) → Left na a nb b i (j + 1)
    unfolding meeting rows_from
    left-second f e = record {
      rows = t.rows;
      others = t.others;
      first = t.first;
      second = omega arith;
      same =
          t.same ∙ (ap (meeting (rows_from i na (head_row a))) (rows_next j nb (head_row b) k)
          ∙ any_same (λ g. any (touch g) (head_row b j ∷ rows_from (j + 1) nb (head_row b))) (λ g. any (touch g) (rows_from (j + 1) nb (head_row b))) (na - i) (λ x. head_row a (i + x))
          (λ x y.
          ap (λ (c : Bool). c || any (touch (head_row a (i + x))) (rows_from (j + 1) nb (head_row b)))
          (touch-behind (head_row a (i + x)) (head_row b j) (let w = starts-up na a t.rows.rows i (i + x) (omega arith) (omega arith) in omega (arith, before-true (head_row b j) (head_row a i) (sym e ∙ f))))));
    }

    pub left-met : {r' : Bool} → r ≡ false → r ≡ before (head_row a i) (head_row b j) → r' ≡ false → r' ≡ before (head_row b j) (head_row a i) → true ≡ meeting (tab na (head_row a)) (tab nb (head_row b))
    unfolding meeting
    left-met e p f p' =
        sym (t.same ∙ (λ x. meeting (rows_next i na (head_row a) h x) (rows_next j nb (head_row b) k x))
        ∙ ap (λ (c : Bool). (c || any (touch (head_row a i)) (rows_from (j + 1) nb (head_row b))) || any (λ g. any (touch g) (head_row b j ∷ rows_from (j + 1) nb (head_row b))) (rows_from (i + 1) na (head_row a)))
        (touch-both (head_row a i) (head_row b j) (before-false (head_row b j) (head_row a i) (sym p' ∙ f)) (before-false (head_row a i) (head_row b j) (sym p ∙ e))))
