-- What stands in rows of two after a row is put in, and the sums of their lengths. Assumes nothing.
use Prim.Native.Nat.{ℕ, zero, suc, ◌+◌, ◌-◌, ◌*◌, ◌≤◌, ◌<◌}
use mathlib.Core.Path.{◌≡◌, refl, ap, sym, ◌∙◌}
use mathlib.Core.List.{List}
use native.Mathlib.Decide.{dec_lt}
use native.Mathlib.Omega.{arith}
use lib.ListN.{length, drop, get_or, set, length-set}
use lib.Seq.{get_or-set_same, get_or-set_other, drop-set-lt}
use Rattle.rules.specs.Buffers.{sum_of}
use Rattle.base_buffers.specs.Rows.{with_row}
use Rattle.base_rotate.proofs.Moved.{get-low, get-front, get-back, get-rest}
use Rattle.pass2_blocks.specs.Rows.{row_in}

module _ (t : List ℕ) (n k a b : ℕ) (h : k ≤ n) (r : n * 2 + 2 ≤ length t) where
  long : length (with_row t n a b) ≡ length t
  long = length-set (set t (n * 2) a) (n * 2 + 1) b ∙ length-set t (n * 2) a

  old : (c : ℕ) → c < n * 2 → get_or (with_row t n a b) c 0 ≡ get_or t c 0
  old c l =
      get_or-set_other (set t (n * 2) a) (n * 2 + 1) c b 0 (λ e. omega arith) ∙ get_or-set_other t (n * 2) c a 0 (λ e. omega arith)

  new-first : get_or (with_row t n a b) (n * 2) 0 ≡ a
  new-first = get_or-set_other (set t (n * 2) a) (n * 2 + 1) (n * 2) b 0 (λ e. omega arith) ∙ get_or-set_same t (n * 2) a 0 (omega arith)

  new-second : get_or (with_row t n a b) (n * 2 + 1) 0 ≡ b
  new-second = get_or-set_same (set t (n * 2) a) (n * 2 + 1) b 0 (omega (arith, length-set t (n * 2) a))

  pub row_before : (c : ℕ) → c < k * 2 → get_or (row_in t n k a b) c 0 ≡ get_or t c 0
  unfolding row_in
  row_before c l =
      get-low (with_row t n a b) (k * 2) (n * 2) (n * 2 + 2) (omega arith) (omega arith) (omega (arith, long)) c l ∙ old c (omega arith)

  pub row_first : get_or (row_in t n k a b) (k * 2) 0 ≡ a
  unfolding row_in
  row_first =
      let e : k * 2 ≡ k * 2 + 0 = omega arith in
      let f : n * 2 + 0 ≡ n * 2 = omega arith in
      ap (λ (x : ℕ). get_or (row_in t n k a b) x 0) e
      ∙ get-front (with_row t n a b) (k * 2) (n * 2) (n * 2 + 2) (omega arith) (omega arith) (omega (arith, long)) 0 (omega arith)
      ∙ ap (λ (x : ℕ). get_or (with_row t n a b) x 0) f ∙ new-first

  pub row-second : get_or (row_in t n k a b) (k * 2 + 1) 0 ≡ b
  unfolding row_in
  row-second =
      get-front (with_row t n a b) (k * 2) (n * 2) (n * 2 + 2) (omega arith) (omega arith) (omega (arith, long)) 1 (omega arith) ∙ new-second

  pub row-after : (c d : ℕ) → d ≡ c + 2 → k * 2 ≤ c → c < n * 2 → get_or (row_in t n k a b) d 0 ≡ get_or t c 0
  unfolding row_in
  row-after c d q l m =
      let e : d ≡ k * 2 + (n * 2 + 2 - n * 2 + (c - k * 2)) = omega arith in
      let f : k * 2 + (c - k * 2) ≡ c = omega arith in
      ap (λ (x : ℕ). get_or (row_in t n k a b) x 0) e
      ∙ get-back (with_row t n a b) (k * 2) (n * 2) (n * 2 + 2) (omega arith) (omega arith) (omega (arith, long)) (c - k * 2) (omega arith)
      ∙ ap (λ (x : ℕ). get_or (with_row t n a b) x 0) f ∙ old c m

  pub row-rest : drop (n * 2 + 2) (row_in t n k a b) ≡ drop (n * 2 + 2) t
  unfolding row_in
  row-rest =
      get-rest (with_row t n a b) (k * 2) (n * 2) (n * 2 + 2) (omega arith) (omega arith) (omega (arith, long))
      ∙ drop-set-lt (n * 2 + 2) (set t (n * 2) a) (n * 2 + 1) b (omega arith)
      ∙ drop-set-lt (n * 2 + 2) t (n * 2) a (omega arith)

-- SUMS

pub sum_same : (g h : ℕ → ℕ × ℕ) (k : ℕ) → ((i : ℕ) → i < k → (g i).1 ≡ (h i).1) → sum_of g k ≡ sum_of h k
sum_same g h zero e = refl
sum_same g h (suc k) e =
    let x : sum_of g k ≡ sum_of h k = sum_same g h k (λ i l. e i (omega arith)) in
    let y : (g k).1 ≡ (h k).1 = e k (omega arith) in
    λ v. x v + y v

pub sum-rise : (h : ℕ → ℕ × ℕ) (k n : ℕ) → k ≤ n → sum_of h k ≤ sum_of h n
sum-rise h k zero l = let e : k ≡ 0 = omega arith in rw e (omega arith)
sum-rise h k (suc n) l = elim (dec_lt n k) [
  | yes p ↦ (let e : k ≡ suc n = omega arith in rw e (omega arith))
  | no p ↦ (let i : sum_of h k ≤ sum_of h n = sum-rise h k n (omega arith) in omega arith)
]

-- the sums behind a row of s put in at k
pub sum-later : (g h : ℕ → ℕ × ℕ) (k n s : ℕ) → ((i : ℕ) → i < k → (g i).1 ≡ (h i).1) → (g k).1 ≡ s → ((i : ℕ) → k ≤ i → i < n → (g (suc i)).1 ≡ (h i).1)
    → (i : ℕ) → k ≤ i → i ≤ n → sum_of g (suc i) ≡ sum_of h i + s
sum-later g h k n s e m l zero p q =
    let z : k ≡ 0 = omega arith in
    let w : (g 0).1 ≡ s = ap (λ (x : ℕ). (g x).1) (sym z) ∙ m in
    omega arith
sum-later g h k n s e m l (suc i) p q = elim (dec_lt i k) [
  | yes y ↦ (let z : k ≡ suc i = omega arith in
      let w : (g (suc i)).1 ≡ s = ap (λ (x : ℕ). (g x).1) (sym z) ∙ m in
      let u : sum_of g (suc i) ≡ sum_of h (suc i) = sum_same g h (suc i) (λ j o. e j (omega arith)) in
      omega arith)
  | no y ↦ (let u : sum_of g (suc i) ≡ sum_of h i + s = sum-later g h k n s e m l i (omega arith) (omega arith) in
      let w : (g (suc i)).1 ≡ (h i).1 = l i (omega arith) (omega arith) in
      omega arith)
]
