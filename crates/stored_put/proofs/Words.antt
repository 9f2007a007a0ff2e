-- What the loops that put words keep, and rows whose cells are known. Assumes nothing.
use mathlib.Core.Path.{◌≡◌, refl, sym, ◌∙◌, ap}
use mathlib.Core.List.{List, ◌++◌}
use Prim.Native.Nat.{ℕ, zero, suc, ◌+◌, ◌-◌, ◌*◌, ◌/◌, ◌%◌, ◌≤◌, ◌<◌}
use native.Mathlib.Omega.{arith}
use lib.ListN.{length, take, drop, get_or, replicate, length-take, length-drop, length-replicate}
use lib.Seq.{paste, take-paste, drop-paste, get_or-append-add, get_or-take, get_or-drop, take-take, take_at, length-take-le, ext_get_or}
use borrow.Rule.Slice.PartMut.{put_mid}
use Rattle.std.proofs.lemmas.Slice.{put_mid-paste}
use Rattle.laws_stored.specs.Offsets.{number_at, numbers_at, part_at}
use Rattle.laws_stored.proofs.Contents.{length-numbers}
use Rattle.base_buffers.specs.Rows.{with_row}
use Rattle.object_layout_labels.specs.Laying.{RowRoom, PutLabel}
use Rattle.stored_put.specs.Laid.{ones, turned, turned_numbers, turned_from, PutWords, WordRoom, LabelRoom, Labelled}

pub row_as : (t t' : List ℕ) (k a b x y : ℕ) → t' ≡ with_row t k a b → a ≡ x → b ≡ y → t' ≡ with_row t k x y
row_as t t' k a b x y e p q = rw (p, q) at e

-- a name that ends at e has room where it begins at j or later
pub name-room : {ls ns y : List ℕ} {k at : ℕ} (b : List ℕ) (i j e : ℕ) → y ≡ part_at b i (e - i) → j ≤ i → LabelRoom ls ns k at (e - j) → RowRoom ls ns k at y
unfolding part_at
name-room {y = y} b i j e q l r =
    let n : length y ≤ e - i = rw q (omega (arith, length-take (e - i) (drop i b))) in
    record { row = r.row; place = omega (arith, r.place); small = omega (arith, r.small) }

-- a label's row whose address and name are known
pub labelled-as : {ls ns ls' ns' : List ℕ} {k at a f r x : ℕ} {m y : List ℕ} → PutLabel ls ns ls' ns' k at a f y r → y ≡ m → a ≡ x → Labelled ls ns ls' ns' k at x f m
labelled-as {ls} {ns} {ls'} {ns'} {k} {at} {a} {f} {r} {x} {m} {y} p e d =
    let q : PutLabel ls ns ls' ns' k at x f m r = rw (e, d) at p in
    record { put = record { row = q.row; bytes = q.bytes; next = refl } }

-- NUMBERS ONE BEHIND ANOTHER

get_or-numbers : (b : List ℕ) (i n k : ℕ) → k < n → get_or (numbers_at b i n) k 0 ≡ number_at b (i + k * 2)
unfolding numbers_at
get_or-numbers b i zero k l = absurd (omega arith)
get_or-numbers b i (suc n) zero l = let e : i + 0 * 2 ≡ i = omega arith in rw e refl
get_or-numbers b i (suc n) (suc k) l = let e : i + suc k * 2 ≡ i + 2 + k * 2 = omega arith in rw e (get_or-numbers b (i + 2) n k (omega arith))

pub length-ones : (n : ℕ) → length (ones n) ≡ n
unfolding ones
length-ones n = length-replicate n 1

-- NUMBERS WHOSE BYTES CHANGED PLACES

length-turned : (b : List ℕ) (i n : ℕ) → length (turned_numbers b i n) ≡ n
unfolding turned_numbers
length-turned b i zero = refl
length-turned b i (suc n) = ap suc (length-turned b (i + 2) n)

get_or-turned : (b : List ℕ) (i n k : ℕ) → k < n → get_or (turned_numbers b i n) k 0 ≡ get_or b (i + k * 2) 0 + get_or b (i + k * 2 + 1) 0 * 256
unfolding turned_numbers
get_or-turned b i zero k l = absurd (omega arith)
get_or-turned b i (suc n) zero l = let e : i + 0 * 2 ≡ i = omega arith in rw e refl
get_or-turned b i (suc n) (suc k) l = let e : i + suc k * 2 ≡ i + 2 + k * 2 = omega arith in rw e (get_or-turned b (i + 2) n k (omega arith))

length_from : (ws : List ℕ) (i n : ℕ) → length (turned_from ws i n) ≡ n
unfolding turned_from
length_from ws i zero = refl
length_from ws i (suc n) = ap suc (length_from ws (i + 1) n)

get_or-from : (ws : List ℕ) (i n k : ℕ) → k < n → get_or (turned_from ws i n) k 0 ≡ turned (get_or ws (i + k) 0)
unfolding turned_from
get_or-from ws i zero k l = absurd (omega arith)
get_or-from ws i (suc n) zero l = let e : i + 0 ≡ i = omega arith in rw e refl
get_or-from ws i (suc n) (suc k) l = let e : i + suc k ≡ i + 1 + k = omega arith in rw e (get_or-from ws (i + 1) n k (omega arith))

-- what is pasted stands there
get_or-pasted : (d : List ℕ) (at : ℕ) (s : List ℕ) (n k : ℕ) → at + n ≤ length d → length s ≡ n → k < n → get_or (paste d at s n) (at + k) 0 ≡ get_or s k 0
get_or-pasted d at s n k l e h =
    let a = length-take-le at d (omega arith) in
    sym (get_or-take (at + n) (paste d at s n) (at + k) 0 (omega arith))
    ∙ ap (λ (r : List ℕ). get_or r (at + k) 0) (take-paste d at s n (omega arith) (omega arith))
    ∙ ap (λ (m : ℕ). get_or (take at d ++ take n s) (m + k) 0) (sym a)
    ∙ get_or-append-add (take at d) (take n s) k 0
    ∙ get_or-take n s k 0 h

-- a list pasted over another of its length
paste-over : (d : List ℕ) (at : ℕ) (s t : List ℕ) (n : ℕ) → at + n ≤ length d → n ≤ length s → paste (paste d at s n) at t n ≡ paste d at t n
paste-over d at s t n l h =
    let a : take at (paste d at s n) ≡ take at d =
    sym (take-take at (at + n) (paste d at s n) (omega arith))
    ∙ ap (take at) (take-paste d at s n (omega arith) h)
    ∙ take_at (take at d) (take n s) at (length-take-le at d (omega arith)) in
    let b = drop-paste d at s n (omega arith) h in
    rw (a, b) refl

-- THE LOOPS, over a part of the words

-- the first i are numbers with their bytes changed
abbrev pub Copying : (b : List ℕ) (start : ℕ) (ws : List ℕ) (i : ℕ) → Type 0
Copying b start ws i = (k : ℕ) → k < i → get_or ws k 0 ≡ get_or b (start + k * 2) 0 + get_or b (start + k * 2 + 1) 0 * 256

-- the bytes of the first i have changed places
pub record Turning (ws₀ ws : List ℕ) (i : ℕ) : Type 0 where
  pub done : (k : ℕ) → k < i → get_or ws k 0 ≡ turned (get_or ws₀ k 0)
  pub rest : (k : ℕ) → i ≤ k → get_or ws k 0 ≡ get_or ws₀ k 0

-- and at their end, where the part of n words from `at` on is written back
module _ (d part : List ℕ) (at n i : ℕ) (r : at + n ≤ length d) (z : length part ≡ length (take (at + n - at) (drop at d))) (l : length part ≤ i) where
  part_size : length part ≡ n
  part_size = omega (arith, length-take (at + n - at) (drop at d), length-drop at d)

  written : (s : List ℕ) → length s ≡ n → ((k : ℕ) → k < n → get_or part k 0 ≡ get_or s k 0) → put_mid at (at + n - at) d part ≡ paste d at s n
  written s e h = put_mid-paste at (at + n - at) d part s n (ext_get_or 0 part s (part_size ∙ sym e) (λ k m. h k (omega (arith, part_size)))) (omega arith) (sym e)

  pub copied-all : (b : List ℕ) (start : ℕ) → Copying b start part i → put_mid at (at + n - at) d part ≡ paste d at (turned_numbers b start n) n
  copied-all b start h = written (turned_numbers b start n) (length-turned b start n) (λ k m. h k (omega (arith, part_size)) ∙ sym (get_or-turned b start n k m))

  pub turned-all : Turning (take (at + n - at) (drop at d)) part i → put_mid at (at + n - at) d part ≡ paste d at (turned_from d at n) n
  turned-all h = written (turned_from d at n) (length_from d at n) (λ k m.
      h.done k (omega (arith, part_size))
      ∙ ap turned (get_or-take (at + n - at) (drop at d) k 0 (omega arith) ∙ get_or-drop at d k 0)
      ∙ sym (get_or-from d at n k m))

pub marked-all : (d part : List ℕ) (at n : ℕ) → at + n ≤ length d → part ≡ replicate (length (take (at + n - at) (drop at d))) 1 → put_mid at (at + n - at) d part ≡ paste d at (ones n) n
unfolding ones
marked-all d part at n r e =
    let m : length (take (at + n - at) (drop at d)) ≡ n = omega (arith, length-take (at + n - at) (drop at d), length-drop at d) in
    put_mid-paste at (at + n - at) d part (replicate n 1) n (rw m at e) (omega arith) (sym (length-replicate n 1))

-- WORDS: turned twice they are the numbers
back : (x y : ℕ) → x < 256 → turned (x + y * 256) ≡ x * 256 + y
back x y l =
    let a : (x + y * 256) % 256 ≡ x = omega arith in
    let b : (x + y * 256) / 256 ≡ y = omega arith in
    rw (a, b) refl

turned-back : (b : List ℕ) (start n : ℕ) (ws : List ℕ) (at : ℕ) → ((i : ℕ) → get_or b i 0 < 256) → at + n ≤ length ws → turned_from (paste ws at (turned_numbers b start n) n) at n ≡ numbers_at b start n
turned-back b start n ws at h r =
    let ws₁ : List ℕ = paste ws at (turned_numbers b start n) n in
    let u = length_from ws₁ at n in
    let v = length-numbers b start n in
    ext_get_or 0 (turned_from ws₁ at n) (numbers_at b start n) (u ∙ sym v) (λ k l.
    let m : k < n = omega arith in
    get_or-from ws₁ at n k m
    ∙ ap turned (get_or-pasted ws at (turned_numbers b start n) n k r (length-turned b start n) m ∙ get_or-turned b start n k m)
    ∙ back (get_or b (start + k * 2) 0) (get_or b (start + k * 2 + 1) 0) (h (start + k * 2))
    ∙ sym (get_or-numbers b start n k m))

pub words-put : {b : List ℕ} {start n : ℕ} {ws ms ws₁ ws₂ ms' : List ℕ} {at : ℕ} → WordRoom b start n ws ms at → ws₁ ≡ paste ws at (turned_numbers b start n) n → ws₂ ≡ paste ws₁ at (turned_from ws₁ at n) n → ms' ≡ paste ms at (ones n) n → ((i : ℕ) → get_or b i 0 < 256)
    → PutWords b start n ws ms ws₂ ms' at
words-put {b} {start} {n} {ws} {ms} {ws₁} {ws₂} {ms'} {at} r e f g h =
    let u = length-turned b start n in
    let x : turned_from ws₁ at n ≡ numbers_at b start n = rw e (turned-back b start n ws at h r.words) in
    let y : paste ws₁ at (numbers_at b start n) n ≡ paste ws at (numbers_at b start n) n = rw e (paste-over ws at (turned_numbers b start n) (numbers_at b start n) n r.words (omega arith)) in
    record { words = f ∙ (ap (λ (s : List ℕ). paste ws₁ at s n) x ∙ y); marks = g }
