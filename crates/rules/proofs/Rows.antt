-- Laws of lists by index, and of lists at the front of a buffer whose rest is zero. Assumes nothing.
use mathlib.Core.Path.{◌≡◌, refl, sym, ◌∙◌, ap}
use mathlib.Core.Logic.{◌⊎◌, inl, inr}
use native.Mathlib.Decide.{dec_lt}
use mathlib.Core.Option.{none, some}
use mathlib.Core.List.{List, [], ◌∷◌, ◌++◌}
use Prim.Native.Nat.{ℕ, zero, suc, ◌+◌, ◌-◌, ◌≤◌, ◌<◌, suc-le-suc, zero-le}
use native.Mathlib.Nat.{not-suc-le-zero, le_of_suc-le-suc}
use native.Mathlib.Numerals.{add-one}
use native.Mathlib.Omega.{arith}
use lib.ListN.{length, drop, get_or, length-append, length-replicate}
use lib.Seq.{paste, take-length, take-append_seam, drop-append-add}
use Rattle.rules.specs.Tables.{Tri, less, same, more, Order, pick, look, Low, Sorted}
use Rattle.rules.specs.Buffers.{tab, Up, zeros, lay}
use Rattle.rules.proofs.Tables.{look-here, look-there, lt-ne, none-some}

module _ {A : Type 0} where
  pub length-tab : (n : ℕ) (f : ℕ → A) → length (tab n f) ≡ n
  length-tab zero f = refl
  length-tab (suc n) f = ap suc (length-tab n (λ k. f (suc k)))

  pub get_or-tab : (n : ℕ) (f : ℕ → A) (k : ℕ) (d : A) → k < n → get_or (tab n f) k d ≡ f k
  get_or-tab zero f k d h = absurd (not-suc-le-zero h)
  get_or-tab (suc n) f zero d h = refl
  get_or-tab (suc n) f (suc k) d h = get_or-tab n (λ i. f (suc i)) k d (le_of_suc-le-suc h)

  pub tab-ext : (n : ℕ) (f g : ℕ → A) → ((k : ℕ) → k < n → f k ≡ g k) → tab n f ≡ tab n g
  tab-ext zero f g h = refl
  tab-ext (suc n) f g h =
      let a : f 0 ≡ g 0 = h 0 (suc-le-suc zero-le) in
      let t : tab n (λ k. f (suc k)) ≡ tab n (λ k. g (suc k)) = tab-ext n (λ k. f (suc k)) (λ k. g (suc k)) (λ k l. h (suc k) (suc-le-suc l)) in
      cc

  pub tab-get_or : (l : List A) (d : A) → tab (length l) (λ k. get_or l k d) ≡ l
  tab-get_or [] d = refl
  tab-get_or (a ∷ l) d = ap (λ (t : List A). a ∷ t) (tab-get_or l d)

  pub tab-suc : (n : ℕ) (f : ℕ → A) → tab (suc n) f ≡ tab n f ++ (f n ∷ [])
  tab-suc zero f = refl
  tab-suc (suc n) f = ap (λ (t : List A). f 0 ∷ t) (tab-suc n (λ k. f (suc k)))

  pub tab-more : (n : ℕ) (f : ℕ → A) → tab (n + 1) f ≡ tab n f ++ (f n ∷ [])
  tab-more n f = rw add-one (tab-suc n f)

-- a table by index: sorted where each key is above the one before
module _ {K U : Type 0} (O : Order K) where
  up-tail : {n : ℕ} {f : ℕ → K × U} → Up O (suc n) f → Up O n (λ k. f (suc k))
  up-tail u = record { next = λ k h. u.next (suc k) (suc-le-suc h) }

  pub low-tab : (j : K) (n : ℕ) (f : ℕ → K × U) → Up O n f → (0 < n → O.lt j (f 0).0) → Low O j (tab n f)
  low-tab j zero f u h = tt
  low-tab j (suc n) f u h =
      let b : O.lt j (f 0).0 = h (suc-le-suc zero-le) in
      (b, low-tab j n (λ k. f (suc k)) (up-tail u) (λ p. O.trans j (f 0).0 (f 1).0 b (u.next 0 (suc-le-suc p))))

  pub sorted-tab : (n : ℕ) (f : ℕ → K × U) → Up O n f → Sorted O (tab n f)
  sorted-tab zero f u = tt
  sorted-tab (suc n) f u = (low-tab (f 0).0 n (λ k. f (suc k)) (up-tail u) (λ p. u.next 0 (suc-le-suc p)), sorted-tab n (λ k. f (suc k)) (up-tail u))

  -- and back
  pub tab-sorted : (n : ℕ) (f : ℕ → K × U) → Sorted O (tab n f) → Up O n f
  tab-sorted n f s = record { next = go n f s }
    where
      go : (n : ℕ) (f : ℕ → K × U) → Sorted O (tab n f) → (k : ℕ) → suc k < n → O.lt (f k).0 (f (suc k)).0
      go zero f s k h = absurd (not-suc-le-zero h)
      go (suc zero) f s k h = absurd (not-suc-le-zero (le_of_suc-le-suc h))
      go (suc (suc n)) f s zero h = s.0.0
      go (suc (suc n)) f s (suc k) h = go (suc n) (λ i. f (suc i)) s.1 k (le_of_suc-le-suc h)

  -- any two rows
  pub up_lt : (n : ℕ) (f : ℕ → K × U) → Up O n f → (i j : ℕ) → i < j → j < n → O.lt (f i).0 (f j).0
  up_lt n f u i zero h l = absurd (not-suc-le-zero h)
  up_lt n f u i (suc j) h l = go le_split (λ p. up_lt n f u i j p (omega arith))
    where
      le_split : (i ≡ j) ⊎ (i < j)
      le_split = elim (dec_lt i j) [ yes p ↦ inr p | no p ↦ inl (omega arith) ]

      go : (i ≡ j) ⊎ (i < j) → (i < j → O.lt (f i).0 (f j).0) → O.lt (f i).0 (f (suc j)).0
      go (inl e) ih = rw e (u.next j l)
      go (inr p) ih = O.trans (f i).0 (f j).0 (f (suc j)).0 (ih p) (u.next j l)

  -- a row is found by its key
  pub look-tab : (n : ℕ) (f : ℕ → K × U) → Sorted O (tab n f) → (k : ℕ) → k < n → look O (tab n f) (f k).0 ≡ some (f k).1
  look-tab zero f s k h = absurd (not-suc-le-zero h)
  look-tab (suc n) f s zero h = look-here O (f 0) (tab n (λ i. f (suc i))) (f 0).0 refl
  look-tab (suc n) f s (suc k) h =
      look-there O (f 0) (tab n (λ i. f (suc i))) (f (suc k)).0 (λ (e : (f (suc k)).0 ≡ (f 0).0). lt-ne O (f 0).0 (f (suc k)).0 (up_lt (suc n) f (tab-sorted (suc n) f s) 0 (suc k) (suc-le-suc zero-le) h) (sym e))
      ∙ look-tab n (λ i. f (suc i)) s.1 k (le_of_suc-le-suc h)

  -- what is found stands in a row
  pub look-row : (n : ℕ) (f : ℕ → K × U) (x : K) (v : U) → look O (tab n f) x ≡ some v → (k : ℕ) × (k < n) × (f k ≡ (x, v))
  look-row zero f x v e = absurd (none-some e)
  look-row (suc n) f x v e = go (O.tri x (f 0).0) e (look-row n (λ i. f (suc i)) x v)
    where
      T : Type 0
      T = (k : ℕ) × (k < suc n) × (f k ≡ (x, v))

      later : (look O (tab n (λ i. f (suc i))) x ≡ some v → (k : ℕ) × (k < n) × (f (suc k) ≡ (x, v))) → look O (tab n (λ i. f (suc i))) x ≡ some v → T
      later ih q = let w = ih q in (suc w.0, suc-le-suc w.1, w.2)

      go : (c : Tri O.lt x (f 0).0) → pick c (f 0).1 (look O (tab n (λ i. f (suc i))) x) ≡ some v
          → (look O (tab n (λ i. f (suc i))) x ≡ some v → (k : ℕ) × (k < n) × (f (suc k) ≡ (x, v))) → T
      go (less h) q ih = later ih q
      go (same p) q ih = (0, suc-le-suc zero-le, (let w : (f 0).1 ≡ v = cc in λ i. (sym p i, w i)))
      go (more h) q ih = later ih q

  -- no row has the key
  pub look_none : (n : ℕ) (f : ℕ → K × U) (x : K) → ((k : ℕ) → k < n → x ≡ (f k).0 → ⊥) → look O (tab n f) x ≡ none
  look_none zero f x h = refl
  look_none (suc n) f x h =
      look-there O (f 0) (tab n (λ i. f (suc i))) x (h 0 (suc-le-suc zero-le)) ∙ look_none n (λ i. f (suc i)) x (λ k l. h (suc k) (suc-le-suc l))

pub length-lay : (l : List ℕ) (len : ℕ) → length l ≤ len → length (lay l len) ≡ len
length-lay l len h = rw (length-append, length-replicate) (omega arith)

pub drop-replicate : (n m : ℕ) → drop n (zeros m) ≡ zeros (m - n)
drop-replicate zero m = ap zeros (let e : m ≡ m - 0 = omega arith in e)
drop-replicate (suc n) zero = ap zeros (let e : 0 ≡ 0 - suc n = omega arith in e)
drop-replicate (suc n) (suc m) = drop-replicate n m ∙ ap zeros (let e : m - n ≡ suc m - suc n = omega arith in e)

-- what is written right behind it makes it longer
pub lay-more : (l v : List ℕ) (len : ℕ) → length l + length v ≤ len → paste (lay l len) (length l) v (length v) ≡ lay (l ++ v) len
lay-more l v len h =
    rw (take-append_seam, take-length, drop-append-add, drop-replicate)
    (ap (λ (k : ℕ). l ++ v ++ zeros k) (let e : (len - length l) - length v ≡ len - length (l ++ v) = omega (arith, length-append l v) in e))

pub lay-nil : (len : ℕ) → lay [] len ≡ zeros len
lay-nil len = ap zeros (let e : len - 0 ≡ len = omega arith in e)

-- what stands there: of the list within it, and 0 behind it
pub get_or-zeros : (m i : ℕ) → ◌≡◌ {A = ℕ} (get_or (zeros m) i 0) 0
get_or-zeros zero i = refl
get_or-zeros (suc m) zero = refl
get_or-zeros (suc m) (suc i) = get_or-zeros m i

pub get_or-lay : (l : List ℕ) (len i : ℕ) → get_or (lay l len) i 0 ≡ get_or l i 0
get_or-lay l len i = go l (len - length l) i
  where
    go : (l : List ℕ) (m i : ℕ) → get_or (l ++ zeros m) i 0 ≡ get_or l i 0
    go [] m i = get_or-zeros m i
    go (a ∷ l) m zero = refl
    go (a ∷ l) m (suc i) = go l m i
