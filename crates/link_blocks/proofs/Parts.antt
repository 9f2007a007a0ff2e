-- The parts of all blocks, merged, are the layout of both objects' blocks. Assumes nothing.
use mathlib.Core.Path.{◌≡◌, refl, sym, ◌∙◌, ap}
use mathlib.Core.List.{List, [], ◌∷◌, ◌++◌, map, map-append}
use Prim.Native.Nat.{ℕ, zero, suc, ◌+◌, ◌*◌, ◌≤◌, ◌<◌}
use native.Mathlib.Omega.{arith}
use lib.ListN.{length, take, drop, get_or, length-drop, length-replicate}
use lib.Seq.{length-take-le, get_or-take, get_or-drop, drop-drop}
use Rattle.rules.specs.Tables.{Tri, less, same, more, Order, Table, nat_order, put, insert, merge, newer, map_t}
use Rattle.rules.specs.Objects.{Cell, unset, heads, flat}
use Rattle.rules.specs.Buffers.{tab, head_row, sum_of, cell_of, cell_row, carve, view_blocks, head_cells, word_of, mark_of, zeros, lay, BlocksOk}
use Rattle.rules.proofs.Rows.{length-tab, get_or-tab, tab-ext, tab-get_or}
use Rattle.rules.proofs.Sound.{sum-front}
use Rattle.link_blocks.specs.Merged.{both_blocks, MergeReady, gather, part, row_part, word_part, merged_rows, merged_parts, Apart, RowsReady, PartsReady}
use Rattle.link_blocks.proofs.Walk.{blocks-rows}
use Rattle.link_blocks.proofs.Filled.{sum-under}

-- A MERGE WITH EACH VALUE CHANGED

module _ {K U W : Type 0} (O : Order K) (f : K → U → W) where
  map-insert : (d : K × U) (t : Table K U) → map_t f (insert O newer d t) ≡ insert O newer (d.0, f d.0 d.1) (map_t f t)
  map-insert d [] = refl
  map-insert d (e ∷ t) = go (map-insert d t) (O.tri d.0 e.0)
    where
      go : map_t f (insert O newer d t) ≡ insert O newer (d.0, f d.0 d.1) (map_t f t) → (c : Tri O.lt d.0 e.0)
          → map_t f (put newer d e t c (insert O newer d t)) ≡ put newer (d.0, f d.0 d.1) (e.0, f e.0 e.1) (map_t f t) c (insert O newer (d.0, f d.0 d.1) (map_t f t))
      go ih (less h) = refl
      go ih (same q) = λ i. (e.0, f (sym q i) d.1) ∷ map_t f t
      go ih (more h) = ap (λ (r : Table K W). (e.0, f e.0 e.1) ∷ r) ih

  pub map-merge : (s t : Table K U) → map_t f (merge O newer s t) ≡ merge O newer (map_t f s) (map_t f t)
  map-merge [] t = refl
  map-merge (d ∷ s) t = map-insert d (merge O newer s t) ∙ ap (insert O newer (d.0, f d.0 d.1)) (map-merge s t)

-- ROWS OF A TABLE OF BLOCKS

pub map-tab : {A B : Type 0} (g : A → B) (n : ℕ) (f : ℕ → A) → map g (tab n f) ≡ tab n (λ k. g (f k))
map-tab g zero f = refl
map-tab g (suc n) f = ap (λ (t : List _). g (f 0) ∷ t) (map-tab g n (λ k. f (suc k)))

pub map_t-tab : {K U W : Type 0} (g : K → U → W) (n : ℕ) (f : ℕ → K × U) → map_t g (tab n f) ≡ tab n (λ k. ((f k).0, g (f k).0 (f k).1))
map_t-tab g zero f = refl
map_t-tab g (suc n) f = ap (λ (t : Table _ _). ((f 0).0, g (f 0).0 (f 0).1) ∷ t) (map_t-tab g n (λ k. f (suc k)))

-- a part of a list, by index
pub part-tab : {A : Type 0} (X : List A) (o l : ℕ) (d : A) → o + l ≤ length X → take l (drop o X) ≡ tab l (λ i. get_or X (o + i) d)
part-tab X o l d h =
    let size : length (take l (drop o X)) ≡ l = length-take-le l (drop o X) (omega (arith, length-drop o X)) in
    sym (tab-get_or (take l (drop o X)) d)
    ∙ (ap (λ (n : ℕ). tab n (λ k. get_or (take l (drop o X)) k d)) size
    ∙ tab-ext l (λ k. get_or (take l (drop o X)) k d) (λ i. get_or X (o + i) d) (λ k m. get_or-take l (drop o X) k d m ∙ get_or-drop o X k d))

carve-tab : (n : ℕ) (h : ℕ → ℕ × ℕ) (cs : List Cell) → carve (tab n h) cs ≡ tab n (λ k. ((h k).0, take (h k).1 (drop (sum_of h k) cs)))
carve-tab zero h cs = refl
carve-tab (suc n) h cs =
    ap (λ (t : Table ℕ (List Cell)). ((h 0).0, take (h 0).1 cs) ∷ t)
    (carve-tab n (λ k. h (suc k)) (drop (h 0).1 cs)
    ∙ tab-ext n (λ k. ((h (suc k)).0, take (h (suc k)).1 (drop (sum_of (λ j. h (suc j)) k) (drop (h 0).1 cs)))) (λ k. ((h (suc k)).0, take (h (suc k)).1 (drop (sum_of h (suc k)) cs)))
    (λ k l. ap (λ (r : List Cell). ((h (suc k)).0, take (h (suc k)).1 r)) (drop-drop (sum_of (λ j. h (suc j)) k) (h 0).1 cs ∙ ap (λ (x : ℕ). drop x cs) (sym (sum-front h k)))))

-- block k of a lent table: its words, by index
abbrev pub block_cells : (bs ws ms : List ℕ) → ℕ → List Cell
block_cells bs ws ms k = tab (head_row bs k).1 (λ i. cell_row ws ms (sum_of (head_row bs) k + i))

module _ (n w : ℕ) (bs ws ms : List ℕ) (v : BlocksOk n w bs) where
  inside : (k : ℕ) → k < n → sum_of (head_row bs) k + (head_row bs k).1 ≤ w
  inside k l = omega (arith, sum-under (head_row bs) n k l, v.sum)

  pub view-tab : view_blocks n w bs ws ms ≡ tab n (λ k. ((head_row bs k).0, block_cells bs ws ms k))
  unfolding view_blocks
  view-tab =
      carve-tab n (head_row bs) (tab w (cell_row ws ms))
      ∙ tab-ext n (λ k. ((head_row bs k).0, take (head_row bs k).1 (drop (sum_of (head_row bs) k) (tab w (cell_row ws ms))))) (λ k. ((head_row bs k).0, block_cells bs ws ms k))
      (λ k l. ap (λ (r : List Cell). ((head_row bs k).0, r))
      (part-tab (tab w (cell_row ws ms)) (sum_of (head_row bs) k) (head_row bs k).1 unset (omega (arith, inside k l, length-tab w (cell_row ws ms)))
      ∙ tab-ext (head_row bs k).1 (λ i. get_or (tab w (cell_row ws ms)) (sum_of (head_row bs) k + i) unset) (λ i. cell_row ws ms (sum_of (head_row bs) k + i))
      (λ i m. get_or-tab w (cell_row ws ms) (sum_of (head_row bs) k + i) unset (omega (arith, inside k l)))))

  -- what a buffer has of each block, where every word of it is g of its cell
  parts-view : (g : Cell → ℕ) (X : List ℕ) → w ≤ length X → ((i : ℕ) → i < w → g (cell_row ws ms i) ≡ get_or X i 0) → map_t (λ s cs. map g cs) (view_blocks n w bs ws ms) ≡ tab n (word_part bs X)
  unfolding part
  parts-view g X room e =
      ap (map_t (λ s cs. map g cs)) view-tab
      ∙ (map_t-tab (λ s cs. map g cs) n (λ k. ((head_row bs k).0, block_cells bs ws ms k))
      ∙ tab-ext n (λ k. ((head_row bs k).0, map g (block_cells bs ws ms k))) (word_part bs X)
      (λ k l. ap (λ (r : List ℕ). ((head_row bs k).0, r))
      (map-tab g (head_row bs k).1 (λ i. cell_row ws ms (sum_of (head_row bs) k + i))
      ∙ (tab-ext (head_row bs k).1 (λ i. g (cell_row ws ms (sum_of (head_row bs) k + i))) (λ i. get_or X (sum_of (head_row bs) k + i) 0) (λ i m. e (sum_of (head_row bs) k + i) (omega (arith, inside k l)))
      ∙ sym (part-tab X (sum_of (head_row bs) k) (head_row bs k).1 0 (omega (arith, inside k l)))))))

  -- the cells of a row
  abbrev row_out : ℕ → List Cell → List ℕ
  row_out s cs = s ∷ length cs ∷ []

  rows-view : map_t row_out (view_blocks n w bs ws ms) ≡ tab n (row_part bs)
  unfolding part
  rows-view =
      ap (map_t row_out) view-tab
      ∙ (map_t-tab row_out n (λ k. ((head_row bs k).0, block_cells bs ws ms k))
      ∙ tab-ext n (λ k. ((head_row bs k).0, row_out (head_row bs k).0 (block_cells bs ws ms k))) (row_part bs)
      (λ k l. ap (λ (r : List ℕ). ((head_row bs k).0, r))
      ((let p : get_or bs (k * 2) 0 ≡ get_or bs (k * 2 + 0) 0 = ap (λ (x : ℕ). get_or bs x 0) (let z : k * 2 ≡ k * 2 + 0 = omega arith in z) in
      λ x. p x ∷ length-tab (head_row bs k).1 (λ i. cell_row ws ms (sum_of (head_row bs) k + i)) x ∷ [])
      ∙ sym (part-tab bs (k * 2) 2 0 (omega (arith, v.room))))))

-- A WORD AND ITS MARK

word-of : (x m : ℕ) → (m ≡ 0 → x ≡ 0) → word_of (cell_of x m) ≡ x
word-of x zero h = sym (h refl)
word-of x (suc m) h = refl

mark-of : (x m : ℕ) → m ≤ 1 → mark_of (cell_of x m) ≡ m
mark-of x zero h = refl
mark-of x (suc m) h = let e : m ≡ 0 = omega arith in ap suc (sym e)

-- ALL TOGETHER

zeros-long : {z : List ℕ} (n : ℕ) → z ≡ zeros n → length z ≡ n
zeros-long n e = ap length e ∙ length-replicate n 0

gather-flat : (g : Cell → ℕ) (t : Table ℕ (List Cell)) → gather (map_t (λ s cs. map g cs) t) ≡ map g (flat t)
gather-flat g [] = refl
gather-flat g (b ∷ t) = ap (λ (l : List ℕ). map g b.1 ++ l) (gather-flat g t) ∙ sym (map-append g b.1 (flat t))

gather-heads : (t : Table ℕ (List Cell)) → gather (map_t (λ s cs. s ∷ length cs ∷ []) t) ≡ head_cells (heads t)
gather-heads [] = refl
gather-heads (b ∷ t) = ap (λ (l : List ℕ). b.0 ∷ length b.1 ∷ l) (gather-heads t)

module _ {na wa : ℕ} {a aw am : List ℕ} {nb wb : ℕ} {b bw bm blocks words marks : List ℕ} (r : MergeReady na wa a aw am nb wb b bw bm blocks words marks) where
  abbrev both : Table ℕ (List Cell)
  both = both_blocks na wa a aw am nb wb b bw bm

  pub merged-rows : merged_rows na a nb b ≡ head_cells (heads both)
  unfolding both_blocks merged_rows
  merged-rows =
      (λ x. gather (merge nat_order newer (sym (rows-view na wa a aw am r.rows) x) (sym (rows-view nb wb b bw bm r.other_rows) x)))
      ∙ (ap gather (sym (map-merge nat_order (λ s cs. s ∷ length cs ∷ []) (view_blocks na wa a aw am) (view_blocks nb wb b bw bm))) ∙ gather-heads both)

  -- where the buffers hold g of each cell
  merged-parts : (g : Cell → ℕ) (X Y : List ℕ) → wa ≤ length X → wb ≤ length Y → ((i : ℕ) → i < wa → g (cell_row aw am i) ≡ get_or X i 0) → ((i : ℕ) → i < wb → g (cell_row bw bm i) ≡ get_or Y i 0)
      → merged_parts na a X nb b Y ≡ map g (flat both)
  unfolding both_blocks merged_parts
  merged-parts g X Y p q e f =
      (λ x. gather (merge nat_order newer (sym (parts-view na wa a aw am r.rows g X p e) x) (sym (parts-view nb wb b bw bm r.other_rows g Y q f) x)))
      ∙ (ap gather (sym (map-merge nat_order (λ s cs. map g cs) (view_blocks na wa a aw am) (view_blocks nb wb b bw bm))) ∙ gather-flat g both)

  pub merged-words : merged_parts na a aw nb b bw ≡ map word_of (flat both)
  merged-words =
      merged-parts word_of aw bw r.cells.room_words r.other_cells.room_words (λ i l. word-of (get_or aw i 0) (get_or am i 0) (r.cells.rows i l).clear)
      (λ i l. word-of (get_or bw i 0) (get_or bm i 0) (r.other_cells.rows i l).clear)

  pub merged-marks : merged_parts na a am nb b bm ≡ map mark_of (flat both)
  merged-marks =
      merged-parts mark_of am bm r.cells.room_marks r.other_cells.room_marks (λ i l. mark-of (get_or aw i 0) (get_or am i 0) (r.cells.rows i l).mark)
      (λ i l. mark-of (get_or bw i 0) (get_or bm i 0) (r.other_cells.rows i l).mark)

  -- what the loops ask of blank buffers
  apart : Apart na a nb b
  apart = record { rows = blocks-rows r.rows; others = blocks-rows r.other_rows; apart = r.apart }

  pub rows-ready : {z : List ℕ} → z ≡ zeros (length blocks) → RowsReady na a nb b z
  rows-ready {z} e =
      let l : length z ≡ length blocks = zeros-long (length blocks) e in
      record { tables = apart; room = omega (arith, r.room_blocks); blank = e ∙ ap zeros (sym l) }

  pub words-ready : {z : List ℕ} → z ≡ zeros (length words) → PartsReady na a aw nb b bw z
  words-ready {z} e =
      let l : length z ≡ length words = zeros-long (length words) e in
      record {
        tables = apart;
        held = omega (arith, r.rows.sum, r.cells.room_words);
        other_held = omega (arith, r.other_rows.sum, r.other_cells.room_words);
        room = omega (arith, r.rows.sum, r.other_rows.sum, r.room_words);
        blank = e ∙ ap zeros (sym l);
      }

  pub marks-ready : {z : List ℕ} → z ≡ zeros (length marks) → PartsReady na a am nb b bm z
  marks-ready {z} e =
      let l : length z ≡ length marks = zeros-long (length marks) e in
      record {
        tables = apart;
        held = omega (arith, r.rows.sum, r.cells.room_marks);
        other_held = omega (arith, r.other_rows.sum, r.other_cells.room_marks);
        room = omega (arith, r.rows.sum, r.other_rows.sum, r.room_marks);
        blank = e ∙ ap zeros (sym l);
      }

  -- what each buffer holds afterwards
  pub laid-rows : (z x : List ℕ) → z ≡ zeros (length blocks) → x ≡ lay (merged_rows na a nb b) (length z) → x ≡ lay (head_cells (heads both)) (length blocks)
  laid-rows z x e p = p ∙ (λ y. lay (merged-rows y) (zeros-long (length blocks) e y))

  pub laid-words : (z x : List ℕ) → z ≡ zeros (length words) → x ≡ lay (merged_parts na a aw nb b bw) (length z) → x ≡ lay (map word_of (flat both)) (length words)
  laid-words z x e p = p ∙ (λ y. lay (merged-words y) (zeros-long (length words) e y))

  pub laid-marks : (z x : List ℕ) → z ≡ zeros (length marks) → x ≡ lay (merged_parts na a am nb b bm) (length z) → x ≡ lay (map mark_of (flat both)) (length marks)
  laid-marks z x e p = p ∙ (λ y. lay (merged-marks y) (zeros-long (length marks) e y))
