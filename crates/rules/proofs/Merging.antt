-- Two sorted tables merged row by row: what is left of the merge when some rows of each have gone out. For every order of keys. Assumes nothing.
use mathlib.Core.Path.{◌≡◌, refl, sym, ◌∙◌, ap}
use mathlib.Core.List.{List, [], ◌∷◌}
use Prim.Native.Nat.{ℕ, zero, suc, ◌+◌, ◌-◌, ◌≤◌, ◌<◌}
use native.Mathlib.Omega.{arith}
use native.Mathlib.Decide.{dec_lt}
use native.Mathlib.Numerals.{add-one}
use Rattle.rules.specs.Tables.{Table, Order, Low, merge}
use Rattle.rules.specs.Buffers.{tab, Up}
use Rattle.rules.proofs.Tables.{merge-left, merge-right, merge-both}
use Rattle.rules.proofs.Rows.{tab-ext, low-tab}

-- the rows of a table of n from row i on
unfoldable pub rows_from : {A : Type 0} → ℕ → ℕ → (ℕ → A) → List A
rows_from i n f = tab (n - i) (λ k. f (i + k))

module _ {A : Type 0} where
  pub rows_all : (n : ℕ) (f : ℕ → A) → rows_from 0 n f ≡ tab n f
  unfolding rows_from
  rows_all n f =
      let e : n - 0 ≡ n = omega arith in
      rw e (tab-ext n (λ k. f (0 + k)) f (λ k l. ap f (let q : 0 + k ≡ k = omega arith in q)))

  pub rows_none : (i n : ℕ) (f : ℕ → A) → n ≤ i → rows_from i n f ≡ []
  unfolding rows_from
  rows_none i n f h = ap (λ (m : ℕ). tab m (λ k. f (i + k))) (let e : n - i ≡ 0 = omega arith in e)

  pub rows_next : (i n : ℕ) (f : ℕ → A) → i < n → rows_from i n f ≡ f i ∷ rows_from (i + 1) n f
  unfolding rows_from
  rows_next i n f h =
      let e : n - i ≡ suc (n - (i + 1)) = omega arith in
      let z : i + 0 ≡ i = omega arith in
      let t = tab-ext (n - (i + 1)) (λ k. f (i + suc k)) (λ k. f (i + 1 + k)) (λ k l. ap f (let q : i + suc k ≡ i + 1 + k = omega arith in q)) in
      rw e (ap (λ (r : List A). f (i + 0) ∷ r) t ∙ rw z refl)

module _ {K U : Type 0} (O : Order K) where
  -- a key below row i, if there is one, is below every row from i on
  pub low_rows : (x : K) (i n : ℕ) (f : ℕ → K × U) → Up O n f → (i < n → O.lt x (f i).0) → Low O x (rows_from i n f)
  unfolding rows_from
  low_rows x i n f u h =
      low-tab O x (n - i) (λ k. f (i + k)) (record { next = λ k l. rw (let e : i + suc k ≡ suc (i + k) = omega arith in e) (u.next (i + k) (omega arith)) })
      (λ l. rw (let e : i + 0 ≡ i = omega arith in e) (h (omega arith)))

  -- what is left when i rows of the one and j of the other are out
  abbrev pub left : (U → U → U) → (n : ℕ) → (ℕ → K × U) → (m : ℕ) → (ℕ → K × U) → ℕ → ℕ → Table K U
  left h n f m g i j = merge O h (rows_from i n f) (rows_from j m g)

  module _ (h : U → U → U) {n : ℕ} {f : ℕ → K × U} {m : ℕ} {g : ℕ → K × U} (a : Up O n f) (b : Up O m g) where
    pub left-start : left h n f m g 0 0 ≡ merge O h (tab n f) (tab m g)
    left-start = rw (rows_all n f, rows_all m g) refl

    pub left_over : (i j : ℕ) → n ≤ i → m ≤ j → left h n f m g i j ≡ []
    left_over i j p q = rw (rows_none i n f p, rows_none j m g q) refl

    -- the next row is the first table's, the second's, or both's
    pub left-first : (i j : ℕ) → i < n → (j < m → O.lt (f i).0 (g j).0) → left h n f m g i j ≡ f i ∷ left h n f m g (i + 1) j
    left-first i j l p =
        rw (rows_next i n f l)
        (merge-left O h (f i) (rows_from (i + 1) n f) (rows_from j m g) (low_rows (f i).0 (i + 1) n f a (λ q. rw add-one (a.next i (omega arith))))
        (low_rows (f i).0 j m g b p))

    pub left-second : (i j : ℕ) → j < m → (i < n → O.lt (g j).0 (f i).0) → left h n f m g i j ≡ g j ∷ left h n f m g i (j + 1)
    left-second i j l p = rw (rows_next j m g l) (merge-right O h (rows_from i n f) (g j) (rows_from (j + 1) m g) (low_rows (g j).0 i n f a p))

    pub left_both : (i j : ℕ) → i < n → j < m → (f i).0 ≡ (g j).0 → left h n f m g i j ≡ ((g j).0, h (f i).1 (g j).1) ∷ left h n f m g (i + 1) (j + 1)
    left_both i j l k q =
        rw (rows_next i n f l, rows_next j m g k)
        (merge-both O h (f i) (rows_from (i + 1) n f) (g j) (rows_from (j + 1) m g) (low_rows (f i).0 (i + 1) n f a (λ r. rw add-one (a.next i (omega arith)))) q)
