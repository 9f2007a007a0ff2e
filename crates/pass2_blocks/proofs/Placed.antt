-- A block's rows and words put in at their place are the rules' placed block. Assumes nothing.
use Prim.Native.Nat.{ℕ, zero, suc, ◌+◌, ◌-◌, ◌*◌, ◌≤◌, ◌<◌}
use mathlib.Core.Path.{◌≡◌, refl, ap, sym, ◌∙◌}
use mathlib.Core.List.{List, ◌∷◌, ◌++◌}
use native.Mathlib.Omega.{arith}
use native.Mathlib.Numerals.{add-one}
use lib.ListN.{length, get_or}
use lib.Dec.{ltb}
use Rattle.rules.specs.Base.{ok, span}
use Rattle.rules.specs.Passes.{ObjBlock, obj_block, place, ranges_overlap, overlapping}
use Rattle.rules.specs.Buffers.{tab, head_row, cell_of, cell_row, sum_of}
use Rattle.rules.proofs.Rows.{length-tab, tab-ext}
use Rattle.base_rows.proofs.Sorted.{tab-split}
use Rattle.base_rotate.specs.Turned.{turned}
use Rattle.base_rotate.proofs.Moved.{get-low, get-front, get-back}
use Rattle.pass2_blocks.specs.Rows.{cells_at, orig_row, block_row, view_obj_blocks, row_in}
use Rattle.pass2_blocks.specs.Spots.{Behind, ClashAt, FreeAt, hits}
use Rattle.pass2_blocks.specs.Placing.{Ready}
use Rattle.pass2_blocks.proofs.Places.{meets, Far, place-hit, place-first, place-last, place-free, place-clash}
use Rattle.pass2_blocks.proofs.Inserted.{row_before, row_first, row-second, row-after, sum_same, sum-rise, sum-later}

pub cells-long : (ws ms : List ℕ) (lo n : ℕ) → length (cells_at ws ms lo n) ≡ n
unfolding cells_at
cells-long ws ms lo n = length-tab n (λ i. cell_row ws ms (lo + i))

-- words that stand elsewhere
pub cells-moved : (ws ms ws' ms' : List ℕ) (lo lo' n : ℕ) → ((j : ℕ) → j < n → get_or ws' (lo' + j) 0 ≡ get_or ws (lo + j) 0)
    → ((j : ℕ) → j < n → get_or ms' (lo' + j) 0 ≡ get_or ms (lo + j) 0) → cells_at ws' ms' lo' n ≡ cells_at ws ms lo n
unfolding cells_at
cells-moved ws ms ws' ms' lo lo' n e f =
    tab-ext n (λ j. cell_row ws' ms' (lo' + j)) (λ j. cell_row ws ms (lo + j)) (λ j l. λ v. cell_of (e j l v) (f j l v))

module _ (bs os ws ms : List ℕ) (n used a s o₁ o₂ : ℕ) where
  -- the block to place
  abbrev pub open_block : ObjBlock
  open_block = obj_block a (cells_at ws ms (used - s) s) (span o₁ o₂)

  meets-row : (i : ℕ) → meets open_block (block_row bs os ws ms i) ≡ hits bs a s i
  meets-row i =
      λ v. ranges_overlap a (cells-long ws ms (used - s) s v) (get_or bs (i * 2) 0) (cells-long ws ms (sum_of (head_row bs) i) (get_or bs (i * 2 + 1) 0) v)

  far-row : (i : ℕ) → Behind bs a s i → Far open_block (block_row bs os ws ms i)
  far-row i b = record { clear = meets-row i ∙ b.clear; later = b.later }

  rows_split : (k : ℕ) → k ≤ n → view_obj_blocks n bs os ws ms ≡ tab k (block_row bs os ws ms) ++ tab (n - k) (λ i. block_row bs os ws ms (k + i))
  unfolding view_obj_blocks
  rows_split k h =
      let e : n ≡ k + (n - k) = omega arith in
      ap (λ (x : ℕ). tab x (block_row bs os ws ms)) e ∙ tab-split k (n - k) (block_row bs os ws ms)

  row_next : (k : ℕ) → block_row bs os ws ms (k + 0) ≡ block_row bs os ws ms k
  row_next k = ap (block_row bs os ws ms) (let e : k + 0 ≡ k = omega arith in e)

  pub clash-rule : (k : ℕ) → ClashAt bs n a s k → overlapping (span o₁ o₂) (orig_row os k) ≡ place open_block (view_obj_blocks n bs os ws ms)
  clash-rule k c =
      let f : ℕ → ObjBlock = block_row bs os ws ms in
      let e : n - k ≡ suc (n - k - 1) = omega (arith, c.row) in
      let here : place open_block (tab (n - k) (λ i. f (k + i))) ≡ overlapping (span o₁ o₂) (orig_row os k) =
      ap (λ (x : ℕ). place open_block (tab x (λ i. f (k + i)))) e
      ∙ place-hit open_block (f (k + 0)) (tab (n - k - 1) (λ i. f (k + suc i))) (ap (meets open_block) (row_next k) ∙ meets-row k ∙ c.hit)
      ∙ ap (λ (y : ObjBlock). overlapping (span o₁ o₂) y.place) (row_next k) in
      sym
      (ap (place open_block) (rows_split k (omega (arith, c.row)))
      ∙ place-clash open_block k f (tab (n - k) (λ i. f (k + i))) (span o₁ o₂) (orig_row os k) (λ i l. far-row i (c.behind i l)) here)

  -- the rows before, the block, the rows behind
  abbrev pub opened : ℕ → List ObjBlock
  opened k = tab k (block_row bs os ws ms) ++ (open_block ∷ tab (n - k) (λ i. block_row bs os ws ms (k + i)))

  free-next : (k at m : ℕ) → n - k ≡ m → FreeAt bs n a s k at → place open_block (tab m (λ i. block_row bs os ws ms (k + i))) ≡ ok (open_block ∷ tab m (λ i. block_row bs os ws ms (k + i)))
  free-next k at zero e c = place-last open_block
  free-next k at (suc m) e c =
      let f : ℕ → ObjBlock = block_row bs os ws ms in
      let l : k < n = omega arith in
      place-first open_block (f (k + 0)) (tab m (λ i. f (k + suc i)))
      (ap (meets open_block) (row_next k) ∙ meets-row k ∙ c.clear l)
      (ap (λ (y : ObjBlock). ltb a y.start) (row_next k) ∙ c.before l)

  pub free-rule : (k at : ℕ) → FreeAt bs n a s k at → place open_block (view_obj_blocks n bs os ws ms) ≡ ok (opened k)
  free-rule k at c =
      let f : ℕ → ObjBlock = block_row bs os ws ms in
      ap (place open_block) (rows_split k c.within)
      ∙ place-free open_block k f (tab (n - k) (λ i. f (k + i))) (λ i l. far-row i (c.behind i l)) (free-next k at (n - k) refl c)

  module _ (r : Ready bs os ws ms n used s) (k : ℕ) (h : k ≤ n) where
    abbrev lo : ℕ
    lo = sum_of (head_row bs) k

    abbrev pub bs' : List ℕ
    bs' = row_in bs n k a s

    abbrev pub os' : List ℕ
    os' = row_in os n k o₁ o₂

    abbrev pub ws' : List ℕ
    ws' = turned lo (used - s) used ws

    abbrev pub ms' : List ℕ
    ms' = turned lo (used - s) used ms

    mid-is : used - s ≡ sum_of (head_row bs) n
    mid-is = omega (arith, r.sum)

    low : lo ≤ used - s
    low = omega (arith, mid-is, sum-rise (head_row bs) k n h)

    -- rows
    before : (t : List ℕ) (x y : ℕ) → n * 2 + 2 ≤ length t → (i : ℕ) → i < k → (j : ℕ) → j < 2 → get_or (row_in t n k x y) (i * 2 + j) 0 ≡ get_or t (i * 2 + j) 0
    before t x y q i l j m = row_before t n k x y h q (i * 2 + j) (omega arith)

    after : (t : List ℕ) (x y : ℕ) → n * 2 + 2 ≤ length t → (i : ℕ) → k ≤ i → i < n → (j : ℕ) → j < 2 → get_or (row_in t n k x y) (suc i * 2 + j) 0 ≡ get_or t (i * 2 + j) 0
    after t x y q i l p j m = row-after t n k x y h q (i * 2 + j) (suc i * 2 + j) (omega arith) (omega arith) (omega arith)

    plain : (t : List ℕ) (i : ℕ) → get_or t (i * 2 + 0) 0 ≡ get_or t (i * 2) 0
    plain t i = ap (λ (x : ℕ). get_or t x 0) (let e : i * 2 + 0 ≡ i * 2 = omega arith in e)

    before0 : (t : List ℕ) (x y : ℕ) → n * 2 + 2 ≤ length t → (i : ℕ) → i < k → get_or (row_in t n k x y) (i * 2) 0 ≡ get_or t (i * 2) 0
    before0 t x y q i l = sym (plain (row_in t n k x y) i) ∙ before t x y q i l 0 (omega arith) ∙ plain t i

    after0 : (t : List ℕ) (x y : ℕ) → n * 2 + 2 ≤ length t → (i : ℕ) → k ≤ i → i < n → get_or (row_in t n k x y) (suc i * 2) 0 ≡ get_or t (i * 2) 0
    after0 t x y q i l p = sym (plain (row_in t n k x y) (suc i)) ∙ after t x y q i l p 0 (omega arith) ∙ plain t i

    -- sums
    sum-before : (i : ℕ) → i ≤ k → sum_of (head_row bs') i ≡ sum_of (head_row bs) i
    sum-before i l = sum_same (head_row bs') (head_row bs) i (λ j m. before bs a s r.room j (omega arith) 1 (omega arith))

    sum-after : (i : ℕ) → k ≤ i → i ≤ n → sum_of (head_row bs') (suc i) ≡ sum_of (head_row bs) i + s
    sum-after =
        sum-later (head_row bs') (head_row bs) k n s (λ j m. before bs a s r.room j m 1 (omega arith)) (row-second bs n k a s h r.room)
        (λ j m p. after bs a s r.room j m p 1 (omega arith))

    pub sum-new : sum_of (head_row bs') (n + 1) ≡ used
    sum-new = ap (sum_of (head_row bs')) (add-one n) ∙ sum-after n h (omega arith) ∙ r.sum

    -- words
    module _ (t : List ℕ) (q : used ≤ length t) where
      word-before : (i : ℕ) → i < k → (j : ℕ) → j < get_or bs (i * 2 + 1) 0 → get_or (turned lo (used - s) used t) (sum_of (head_row bs) i + j) 0 ≡ get_or t (sum_of (head_row bs) i + j) 0
      word-before i l j m =
          let u : sum_of (head_row bs) (suc i) ≤ lo = sum-rise (head_row bs) (suc i) k l in
          get-low t lo (used - s) used low (omega arith) q (sum_of (head_row bs) i + j) (omega arith)

      word-new : (j : ℕ) → j < s → get_or (turned lo (used - s) used t) (lo + j) 0 ≡ get_or t (used - s + j) 0
      word-new j m = get-front t lo (used - s) used low (omega arith) q j (omega (arith, r.sum))

      word_after : (i : ℕ) → k ≤ i → i < n → (j : ℕ) → j < get_or bs (i * 2 + 1) 0 → get_or (turned lo (used - s) used t) (sum_of (head_row bs) i + s + j) 0 ≡ get_or t (sum_of (head_row bs) i + j) 0
      word_after i l p j m =
          let S : ℕ = sum_of (head_row bs) i in
          let u : sum_of (head_row bs) (suc i) ≤ sum_of (head_row bs) n = sum-rise (head_row bs) (suc i) n p in
          let v : lo ≤ sum_of (head_row bs) i = sum-rise (head_row bs) k i l in
          let e : sum_of (head_row bs) i + s + j ≡ lo + (used - (used - s) + (sum_of (head_row bs) i + j - lo)) = omega (arith, r.sum) in
          let f : lo + (sum_of (head_row bs) i + j - lo) ≡ sum_of (head_row bs) i + j = omega arith in
          ap (λ (x : ℕ). get_or (turned lo (used - s) used t) x 0) e
          ∙ get-back t lo (used - s) used low (omega arith) q (sum_of (head_row bs) i + j - lo) (omega (arith, mid-is))
          ∙ ap (λ (x : ℕ). get_or t x 0) f

    -- blocks
    block-before : (i : ℕ) → i < k → block_row bs' os' ws' ms' i ≡ block_row bs os ws ms i
    block-before i l =
        let c : cells_at ws' ms' (sum_of (head_row bs) i) (get_or bs (i * 2 + 1) 0) ≡ cells_at ws ms (sum_of (head_row bs) i) (get_or bs (i * 2 + 1) 0) =
        cells-moved ws ms ws' ms' (sum_of (head_row bs) i) (sum_of (head_row bs) i) (get_or bs (i * 2 + 1) 0) (word-before ws r.words i l) (word-before ms r.marks i l) in
        let d : cells_at ws' ms' (sum_of (head_row bs') i) (get_or bs' (i * 2 + 1) 0) ≡ cells_at ws ms (sum_of (head_row bs) i) (get_or bs (i * 2 + 1) 0) =
        (λ v. cells_at ws' ms' (sum-before i (omega arith) v) (before bs a s r.room i l 1 (omega arith) v)) ∙ c in
        λ v. obj_block (before0 bs a s r.room i l v) (d v) (span (before0 os o₁ o₂ r.room_origs i l v) (before os o₁ o₂ r.room_origs i l 1 (omega arith) v))

    block_new : block_row bs' os' ws' ms' k ≡ open_block
    block_new =
        let c : cells_at ws' ms' lo s ≡ cells_at ws ms (used - s) s = cells-moved ws ms ws' ms' (used - s) lo s (word-new ws r.words) (word-new ms r.marks) in
        let d : cells_at ws' ms' (sum_of (head_row bs') k) (get_or bs' (k * 2 + 1) 0) ≡ cells_at ws ms (used - s) s =
        (λ v. cells_at ws' ms' (sum-before k (omega arith) v) (row-second bs n k a s h r.room v)) ∙ c in
        λ v. obj_block (row_first bs n k a s h r.room v) (d v) (span (row_first os n k o₁ o₂ h r.room_origs v) (row-second os n k o₁ o₂ h r.room_origs v))

    block-after : (i : ℕ) → k ≤ i → i < n → block_row bs' os' ws' ms' (suc i) ≡ block_row bs os ws ms i
    block-after i l p =
        let c : cells_at ws' ms' (sum_of (head_row bs) i + s) (get_or bs (i * 2 + 1) 0) ≡ cells_at ws ms (sum_of (head_row bs) i) (get_or bs (i * 2 + 1) 0) =
        cells-moved ws ms ws' ms' (sum_of (head_row bs) i) (sum_of (head_row bs) i + s) (get_or bs (i * 2 + 1) 0) (word_after ws r.words i l p) (word_after ms r.marks i l p) in
        let d : cells_at ws' ms' (sum_of (head_row bs') (suc i)) (get_or bs' (suc i * 2 + 1) 0) ≡ cells_at ws ms (sum_of (head_row bs) i) (get_or bs (i * 2 + 1) 0) =
        (λ v. cells_at ws' ms' (sum-after i l (omega arith) v) (after bs a s r.room i l p 1 (omega arith) v)) ∙ c in
        λ v. obj_block (after0 bs a s r.room i l p v) (d v) (span (after0 os o₁ o₂ r.room_origs i l p v) (after os o₁ o₂ r.room_origs i l p 1 (omega arith) v))

    pub view-new : view_obj_blocks (n + 1) bs' os' ws' ms' ≡ opened k
    unfolding view_obj_blocks
    view-new =
        let f : ℕ → ObjBlock = block_row bs os ws ms in
        let g : ℕ → ObjBlock = block_row bs' os' ws' ms' in
        let e : n + 1 ≡ k + suc (n - k) = omega arith in
        let x = tab-ext k g f block-before in
        let y = ap g (let w : k + 0 ≡ k = omega arith in w) ∙ block_new in
        let z = tab-ext (n - k) (λ i. g (k + suc i)) (λ i. f (k + i))
        (λ i l. ap g (let w : k + suc i ≡ suc (k + i) = omega arith in w) ∙ block-after (k + i) (omega arith) (omega arith)) in
        ap (λ (m : ℕ). tab m g) e ∙ tab-split k (suc (n - k)) g ∙ (λ v. x v ++ (y v ∷ z v))
