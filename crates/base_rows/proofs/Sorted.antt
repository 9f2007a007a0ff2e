-- A row put into a sorted table of rows of four: the table with one entry more. Assumes nothing.
use mathlib.Core.Path.{◌≡◌, refl, sym, ◌∙◌, ap}
use mathlib.Core.List.{List, [], ◌∷◌, ◌++◌}
use Prim.Native.Nat.{ℕ, zero, suc, ◌+◌, ◌-◌, ◌*◌, ◌≤◌, ◌<◌, suc-le-suc, zero-le}
use native.Mathlib.Nat.{not-suc-le-zero}
use native.Mathlib.Decide.{dec_lt}
use native.Mathlib.Omega.{arith}
use lib.ListN.{length, get_or}
use Rattle.rules.specs.Tables.{Table, Order, Tri, less, same, more, insert, put, Low}
use Rattle.rules.specs.Buffers.{tab, Up}
use Rattle.rules.proofs.Tables.{lt-ne, sorted_insert}
use Rattle.rules.proofs.Rows.{tab-ext, sorted-tab, tab-sorted}
use Rattle.base_rows.specs.Opened.{inserted}
use Rattle.base_rows.proofs.Read.{get-before, get-new, get_after}

-- A TABLE WITH AN ENTRY BETWEEN

pub tab-split : {A : Type 0} (a b : ℕ) (g : ℕ → A) → tab (a + b) g ≡ tab a g ++ tab b (λ i. g (a + i))
tab-split zero b g =
    (let e : 0 + b ≡ b = omega arith in ap (λ (x : ℕ). tab x g) e)
    ∙ tab-ext b g (λ i. g (0 + i)) (λ i l. ap g (let e : i ≡ 0 + i = omega arith in e))
tab-split {A} (suc a) b g =
    let e : suc a + b ≡ suc (a + b) = omega arith in
    ap (λ (x : ℕ). tab x g) e
    ∙ ap (λ (x : List A). g 0 ∷ x)
    (tab-split a b (λ i. g (suc i)) ∙ ap (λ (x : List A). tab a (λ i. g (suc i)) ++ x)
    (tab-ext b (λ i. g (suc (a + i))) (λ i. g (suc a + i)) (λ i l. ap g (let q : suc (a + i) ≡ suc a + i = omega arith in q))))

-- every key is below
abbrev High : {K U : Type 0} → Order K → Table K U → K → Type 0
High O [] x = Unit {0}
High O (c ∷ s) x = O.lt c.0 x × High O s x

high-tab : {K U : Type 0} (O : Order K) (n : ℕ) (g : ℕ → K × U) (x : K) → ((k : ℕ) → k < n → O.lt (g k).0 x) → High O (tab n g) x
high-tab O zero g x h = tt
high-tab O (suc n) g x h = (h 0 (suc-le-suc zero-le), high-tab O n (λ i. g (suc i)) x (λ k l. h (suc k) (suc-le-suc l)))

low-all : {K U : Type 0} (O : Order K) (n : ℕ) (g : ℕ → K × U) (x : K) → ((k : ℕ) → k < n → O.lt x (g k).0) → Low O x (tab n g)
low-all O zero g x h = tt
low-all O (suc n) g x h = (h 0 (suc-le-suc zero-le), low-all O n (λ i. g (suc i)) x (λ k l. h (suc k) (suc-le-suc l)))

insert-low : {K U : Type 0} (O : Order K) (f : U → U → U) (e : K × U) (t : Table K U) → Low O e.0 t → insert O f e t ≡ e ∷ t
insert-low O f e [] l = refl
insert-low {U = U} O f e (c ∷ t) l = go (O.tri e.0 c.0)
  where
    go : (d : Tri O.lt e.0 c.0) → put f e c t d (insert O f e t) ≡ e ∷ c ∷ t
    go (less h) = refl
    go (same q) = absurd (lt-ne O e.0 c.0 l.0 q)
    go (more h) = absurd (O.irr e.0 (O.trans e.0 c.0 e.0 l.0 h))

pub insert-mid : {K U : Type 0} (O : Order K) (f : U → U → U) (e : K × U) (s t : Table K U) → High O s e.0 → Low O e.0 t → insert O f e (s ++ t) ≡ s ++ (e ∷ t)
insert-mid O f e [] t h l = insert-low O f e t l
insert-mid {K} {U} O f e (c ∷ s) t h l = go (O.tri e.0 c.0) (insert-mid O f e s t h.1 l)
  where
    go : (d : Tri O.lt e.0 c.0) → insert O f e (s ++ t) ≡ s ++ (e ∷ t) → put f e c (s ++ t) d (insert O f e (s ++ t)) ≡ c ∷ (s ++ (e ∷ t))
    go (less m) ih = absurd (O.irr e.0 (O.trans e.0 c.0 e.0 m h.0))
    go (same q) ih = absurd (lt-ne O c.0 e.0 h.0 (sym q))
    go (more m) ih = ap (λ (x : Table K U). c ∷ x) ih

-- ROWS OF FOUR

-- what F makes of the cells of row k
abbrev pub row_at : {A : Type 0} → (ℕ → ℕ → ℕ → ℕ → A) → List ℕ → ℕ → A
row_at F rs k = F (get_or rs (k * 4) 0) (get_or rs (k * 4 + 1) 0) (get_or rs (k * 4 + 2) 0) (get_or rs (k * 4 + 3) 0)

-- p is where the row belongs among n: those before it are below, those from it on above
pub record Belongs {K U : Type 0} (O : Order K) (F : ℕ → ℕ → ℕ → ℕ → K × U) (rs : List ℕ) (n p a f s l : ℕ) : Type 0 where
  pub within : p ≤ n
  pub room : n * 4 + 4 ≤ length rs
  pub below : (k : ℕ) → k < p → O.lt (row_at F rs k).0 (F a f s l).0
  pub above : (k : ℕ) → p ≤ k → k < n → O.lt (F a f s l).0 (row_at F rs k).0

-- row k of rs' is row m of rs
record Moved (rs' rs : List ℕ) (k m : ℕ) : Type 0 where
  c0 : get_or rs' (k * 4) 0 ≡ get_or rs (m * 4) 0
  c1 : get_or rs' (k * 4 + 1) 0 ≡ get_or rs (m * 4 + 1) 0
  c2 : get_or rs' (k * 4 + 2) 0 ≡ get_or rs (m * 4 + 2) 0
  c3 : get_or rs' (k * 4 + 3) 0 ≡ get_or rs (m * 4 + 3) 0

moved_row : {A : Type 0} (F : ℕ → ℕ → ℕ → ℕ → A) (rs' rs : List ℕ) (k m : ℕ) → Moved rs' rs k m → row_at F rs' k ≡ row_at F rs m
moved_row F rs' rs k m v = λ i. F (v.c0 i) (v.c1 i) (v.c2 i) (v.c3 i)

module _ {K U : Type 0} (O : Order K) (g : U → U → U) (F : ℕ → ℕ → ℕ → ℕ → K × U) {rs rs' : List ℕ} {n p a f s l : ℕ}
    (v : Belongs O F rs n p a f s l) (e : rs' ≡ inserted rs (n * 4) (p * 4) (a ∷ f ∷ s ∷ l ∷ [])) where
  at_before : (k : ℕ) → k < p → (j : ℕ) → j < 4 → get_or rs' (k * 4 + j) 0 ≡ get_or rs (k * 4 + j) 0
  at_before k h j b =
      ap (λ (x : List ℕ). get_or x (k * 4 + j) 0) e
      ∙ get-before rs (n * 4) (p * 4) (a ∷ f ∷ s ∷ l ∷ []) (omega (arith, v.within)) v.room (k * 4 + j) (omega arith)

  at_after : (k : ℕ) → p ≤ k → k < n → (j : ℕ) → j < 4 → get_or rs' (suc k * 4 + j) 0 ≡ get_or rs (k * 4 + j) 0
  at_after k h m j b =
      let q : suc k * 4 + j ≡ p * 4 + 4 + (k * 4 + j - p * 4) = omega arith in
      let w : p * 4 + (k * 4 + j - p * 4) ≡ k * 4 + j = omega arith in
      ap (λ (x : ℕ). get_or rs' x 0) q
      ∙ (ap (λ (x : List ℕ). get_or x (p * 4 + 4 + (k * 4 + j - p * 4)) 0) e
      ∙ (get_after rs (n * 4) (p * 4) (a ∷ f ∷ s ∷ l ∷ []) (omega (arith, v.within)) v.room (k * 4 + j - p * 4) (omega arith)
      ∙ ap (λ (x : ℕ). get_or rs x 0) w))

  at_new : (j : ℕ) → j < 4 → get_or rs' (p * 4 + j) 0 ≡ get_or (a ∷ f ∷ s ∷ l ∷ []) j 0
  at_new j b =
      ap (λ (x : List ℕ). get_or x (p * 4 + j) 0) e
      ∙ get-new rs (n * 4) (p * 4) (a ∷ f ∷ s ∷ l ∷ []) (omega (arith, v.within)) v.room j b

  zero-cell : (r : List ℕ) (k : ℕ) → get_or r (k * 4 + 0) 0 ≡ get_or r (k * 4) 0
  zero-cell r k = ap (λ (x : ℕ). get_or r x 0) (let q : k * 4 + 0 ≡ k * 4 = omega arith in q)

  moved_before : (k : ℕ) → k < p → Moved rs' rs k k
  moved_before k h = record {
    c0 = sym (zero-cell rs' k) ∙ (at_before k h 0 (omega arith) ∙ zero-cell rs k);
    c1 = at_before k h 1 (omega arith);
    c2 = at_before k h 2 (omega arith);
    c3 = at_before k h 3 (omega arith);
  }

  moved-after : (k : ℕ) → p ≤ k → k < n → Moved rs' rs (suc k) k
  moved-after k h m = record {
    c0 = sym (zero-cell rs' (suc k)) ∙ (at_after k h m 0 (omega arith) ∙ zero-cell rs k);
    c1 = at_after k h m 1 (omega arith);
    c2 = at_after k h m 2 (omega arith);
    c3 = at_after k h m 3 (omega arith);
  }

  pub row_before : (k : ℕ) → k < p → row_at F rs' k ≡ row_at F rs k
  row_before k h = moved_row F rs' rs k k (moved_before k h)

  pub row-after : (k : ℕ) → p ≤ k → k < n → row_at F rs' (suc k) ≡ row_at F rs k
  row-after k h m = moved_row F rs' rs (suc k) k (moved-after k h m)

  pub row_new : row_at F rs' p ≡ F a f s l
  row_new =
      let c0 : get_or rs' (p * 4) 0 ≡ a = sym (zero-cell rs' p) ∙ at_new 0 (omega arith) in
      let c1 : get_or rs' (p * 4 + 1) 0 ≡ f = at_new 1 (omega arith) in
      let c2 : get_or rs' (p * 4 + 2) 0 ≡ s = at_new 2 (omega arith) in
      let c3 : get_or rs' (p * 4 + 3) 0 ≡ l = at_new 3 (omega arith) in
      λ i. F (c0 i) (c1 i) (c2 i) (c3 i)

  -- the table: the rows before, the new one, the rows after
  table-split : tab (n + 1) (row_at F rs') ≡ tab p (row_at F rs) ++ (F a f s l ∷ tab (n - p) (λ i. row_at F rs (p + i)))
  table-split =
      let q : n + 1 ≡ p + suc (n - p) = omega (arith, v.within) in
      ap (λ (x : ℕ). tab x (row_at F rs')) q
      ∙ (tab-split p (suc (n - p)) (row_at F rs')
      ∙ (let x = tab-ext p (row_at F rs') (row_at F rs) row_before in
      let y = ap (row_at F rs') (let w : p + 0 ≡ p = omega arith in w) ∙ row_new in
      let z = tab-ext (n - p) (λ i. row_at F rs' (p + suc i)) (λ i. row_at F rs (p + i))
      (λ i h. ap (row_at F rs') (let w : p + suc i ≡ suc (p + i) = omega arith in w) ∙ row-after (p + i) (omega arith) (omega arith)) in
      λ i. x i ++ (y i ∷ z i)))

  table-old : tab n (row_at F rs) ≡ tab p (row_at F rs) ++ tab (n - p) (λ i. row_at F rs (p + i))
  table-old =
      let q : n ≡ p + (n - p) = omega (arith, v.within) in
      ap (λ (x : ℕ). tab x (row_at F rs)) q ∙ tab-split p (n - p) (row_at F rs)

  pub table-new : tab (n + 1) (row_at F rs') ≡ insert O g (F a f s l) (tab n (row_at F rs))
  table-new =
      table-split
      ∙ (sym (insert-mid O g (F a f s l) (tab p (row_at F rs)) (tab (n - p) (λ i. row_at F rs (p + i)))
      (high-tab O p (row_at F rs) (F a f s l).0 v.below)
      (low-all O (n - p) (λ i. row_at F rs (p + i)) (F a f s l).0 (λ i h. v.above (p + i) (omega arith) (omega arith))))
      ∙ ap (insert O g (F a f s l)) (sym table-old))

  -- the rows rise as before
  pub table_up : Up O n (row_at F rs) → Up O (n + 1) (row_at F rs')
  table_up u = tab-sorted O (n + 1) (row_at F rs') (rw table-new (sorted_insert O g (F a f s l) (tab n (row_at F rs)) (sorted-tab O n (row_at F rs) u)))

  -- what each row keeps, the new one too
  module _ (P : ℕ → ℕ → ℕ → ℕ → Type 0) (old : (k : ℕ) → k < n → P (get_or rs (k * 4) 0) (get_or rs (k * 4 + 1) 0) (get_or rs (k * 4 + 2) 0) (get_or rs (k * 4 + 3) 0)) (new : P a f s l) where
    kept-before : (k : ℕ) → k < p → P (get_or rs' (k * 4) 0) (get_or rs' (k * 4 + 1) 0) (get_or rs' (k * 4 + 2) 0) (get_or rs' (k * 4 + 3) 0)
    kept-before k b = let m = moved_before k b in rw (m.c0, m.c1, m.c2, m.c3) (old k (omega (arith, v.within)))

    kept-after : (k : ℕ) → p < k → k < n + 1 → P (get_or rs' (k * 4) 0) (get_or rs' (k * 4 + 1) 0) (get_or rs' (k * 4 + 2) 0) (get_or rs' (k * 4 + 3) 0)
    kept-after zero b h = absurd (not-suc-le-zero b)
    kept-after (suc k) b h = let m = moved-after k (omega arith) (omega arith) in rw (m.c0, m.c1, m.c2, m.c3) (old k (omega arith))

    kept_new : P (get_or rs' (p * 4) 0) (get_or rs' (p * 4 + 1) 0) (get_or rs' (p * 4 + 2) 0) (get_or rs' (p * 4 + 3) 0)
    kept_new = rw (sym (zero-cell rs' p) ∙ at_new 0 (omega arith), at_new 1 (omega arith), at_new 2 (omega arith), at_new 3 (omega arith)) new

    pub rows-kept : (k : ℕ) → k < n + 1 → P (get_or rs' (k * 4) 0) (get_or rs' (k * 4 + 1) 0) (get_or rs' (k * 4 + 2) 0) (get_or rs' (k * 4 + 3) 0)
    rows-kept k h = elim (dec_lt k p) [
      | yes b ↦ kept-before k b
      | no b ↦ elim (dec_lt p k) [ yes c ↦ kept-after k c h | no c ↦ (let w : k ≡ p = omega arith in rw w kept_new) ]
    ]
