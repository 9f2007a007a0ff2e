-- The layout of the object that valid buffers hold: all but the labels' rows and names is what stood in front in the buffers. Assumes nothing.
use mathlib.Core.Path.{◌≡◌, refl, sym, ◌∙◌, ap}
use mathlib.Core.List.{List, [], ◌∷◌, ◌++◌, map, append_assoc}
use Prim.Native.Nat.{ℕ, zero, suc, ◌+◌, ◌-◌, ◌*◌, ◌≤◌, ◌<◌, suc-le-suc, zero-le}
use native.Mathlib.Nat.{not-suc-le-zero, le_of_suc-le-suc}
use native.Mathlib.Omega.{arith}
use lib.ListN.{length, take, drop, get_or, length-drop}
use lib.Seq.{take-add, take-suc, take-length}
use Rattle.rules.specs.Tables.{Table, Tri, less, same, more, Sorted, name_order, Before}
use Rattle.rules.specs.Objects.{Cell, Lab, Name, Counts, flat}
use Rattle.rules.specs.Buffers.{Buffers, tab, lay, head_row, cell_of, cell_row, label_row, reloc_row, carve, view_blocks, view_labels, view_relocs, view, head_cells, word_of, mark_of, pick_row, row_of, reloc_cells, lay_blocks, lay_words, lay_marks, lay_relocs, Valid}
use Rattle.rules.proofs.Tables.{lt-ne}
use Rattle.rules.proofs.Rows.{tab-suc, length-tab, sorted-tab, tab-sorted, up_lt}
use Rattle.rules.proofs.Chains.{total, heads-carve}
use Rattle.rules.proofs.Sound.{total-tab}

flat-carve : (hs : Table ℕ ℕ) (cs : List Cell) → total hs ≤ length cs → flat (carve hs cs) ≡ take (total hs) cs
flat-carve [] cs l = refl
flat-carve (h ∷ hs) cs l = ap (λ (x : List Cell). take h.1 cs ++ x) (flat-carve hs (drop h.1 cs) (omega (arith, length-drop h.1 cs))) ∙ sym (take-add h.1 (total hs) cs)

-- a table's cells, one row more
take-two : (l : List ℕ) (n : ℕ) → suc n * 2 ≤ length l → take (suc n * 2) l ≡ take (n * 2) l ++ (get_or l (n * 2) 0 ∷ get_or l (n * 2 + 1) 0 ∷ [])
take-two l n h =
    let e : suc n * 2 ≡ suc (suc (n * 2)) = omega arith in
    let d : n * 2 + 1 ≡ suc (n * 2) = omega arith in
    rw (e, d) (take-suc l (suc (n * 2)) 0 (omega arith)
    ∙ (ap (λ (x : List ℕ). x ++ (get_or l (suc (n * 2)) 0 ∷ [])) (take-suc l (n * 2) 0 (omega arith))
    ∙ append_assoc (take (n * 2) l) (get_or l (n * 2) 0 ∷ []) (get_or l (suc (n * 2)) 0 ∷ [])))

heads-more : (s : Table ℕ ℕ) (h : ℕ × ℕ) → head_cells (s ++ (h ∷ [])) ≡ head_cells s ++ (h.0 ∷ h.1 ∷ [])
heads-more [] h = refl
heads-more (d ∷ s) h = ap (λ (x : List ℕ). d.0 ∷ d.1 ∷ x) (heads-more s h)

pub heads-plain : (n : ℕ) (bs : List ℕ) → n * 2 ≤ length bs → head_cells (tab n (head_row bs)) ≡ take (n * 2) bs
heads-plain zero bs l = refl
heads-plain (suc n) bs l =
    ap head_cells (tab-suc n (head_row bs)) ∙ (heads-more (tab n (head_row bs)) (head_row bs n)
    ∙ (ap (λ (x : List ℕ). x ++ (get_or bs (n * 2) 0 ∷ get_or bs (n * 2 + 1) 0 ∷ [])) (heads-plain n bs (omega arith)) ∙ sym (take-two bs n l)))

map_more : (f : Cell → ℕ) (s : List Cell) (c : Cell) → map f (s ++ (c ∷ [])) ≡ map f s ++ (f c ∷ [])
map_more f [] c = refl
map_more f (d ∷ s) c = ap (λ (x : List ℕ). f d ∷ x) (map_more f s c)

map-plain : (f : Cell → ℕ) (g : ℕ → Cell) (w : ℕ) (l : List ℕ) → w ≤ length l → ((i : ℕ) → i < w → f (g i) ≡ get_or l i 0) → map f (tab w g) ≡ take w l
map-plain f g zero l h e = refl
map-plain f g (suc w) l h e =
    ap (map f) (tab-suc w g) ∙ (map_more f (tab w g) (g w)
    ∙ ((let p = map-plain f g w l (omega arith) (λ i k. e i (omega arith)) in let q = e w (omega arith) in λ i. p i ++ (q i ∷ [])) ∙ sym (take-suc l w 0 (omega arith))))

word-plain : (a m : ℕ) → (m ≡ 0 → a ≡ 0) → word_of (cell_of a m) ≡ a
word-plain a zero h = sym (h refl)
word-plain a (suc m) h = refl

mark-plain : (a m : ℕ) → m ≤ 1 → mark_of (cell_of a m) ≡ m
mark-plain a zero h = refl
mark-plain a (suc m) h = omega arith

-- the row of a row's name is the row
pub row-index : (n : ℕ) (f : ℕ → Name × Lab) → Sorted name_order (tab n f) → (k : ℕ) → k < n → row_of (tab n f) (f k).0 ≡ k
row-index zero f s k l = absurd (not-suc-le-zero l)
row-index (suc n) f s zero l = go (name_order.tri (f 0).0 (f 0).0)
  where
    go : (c : Tri Before (f 0).0 (f 0).0) → pick_row c (suc (row_of (tab n (λ i. f (suc i))) (f 0).0)) ≡ 0
    go (less h) = absurd (name_order.irr (f 0).0 h)
    go (same e) = refl
    go (more h) = absurd (name_order.irr (f 0).0 h)
row-index (suc n) f s (suc k) l = go (name_order.tri (f (suc k)).0 (f 0).0) (row-index n (λ i. f (suc i)) s.1 k (le_of_suc-le-suc l))
  where
    go : (c : Tri Before (f (suc k)).0 (f 0).0) → row_of (tab n (λ i. f (suc i))) (f (suc k)).0 ≡ k → pick_row c (suc (row_of (tab n (λ i. f (suc i))) (f (suc k)).0)) ≡ suc k
    go (less h) ih = ap suc ih
    go (same e) ih = absurd (lt-ne name_order (f 0).0 (f (suc k)).0 (up_lt name_order (suc n) f (tab-sorted name_order (suc n) f s) 0 (suc k) (suc-le-suc zero-le) l) (sym e))
    go (more h) ih = ap suc ih

pub relocs-more : (ls : Table Name Lab) (s : Table ℕ Name) (r : ℕ × Name) → reloc_cells ls (s ++ (r ∷ [])) ≡ reloc_cells ls s ++ (r.0 ∷ row_of ls r.1 ∷ [])
relocs-more ls [] r = refl
relocs-more ls (d ∷ s) r = ap (λ (x : List ℕ). d.0 ∷ row_of ls d.1 ∷ x) (relocs-more ls s r)

relocs-plain : (t : Table Name Lab) (n : ℕ) (rs ls ns : List ℕ) → n * 2 ≤ length rs → ((k : ℕ) → k < n → row_of t (reloc_row rs ls ns k).1 ≡ get_or rs (k * 2 + 1) 0)
    → reloc_cells t (tab n (reloc_row rs ls ns)) ≡ take (n * 2) rs
relocs-plain t zero rs ls ns l h = refl
relocs-plain t (suc n) rs ls ns l h =
    ap (reloc_cells t) (tab-suc n (reloc_row rs ls ns)) ∙ (relocs-more t (tab n (reloc_row rs ls ns)) (reloc_row rs ls ns n)
    ∙ ((let p = relocs-plain t n rs ls ns (omega arith) (λ k m. h k (omega arith)) in let q = h n (omega arith) in λ i. p i ++ (get_or rs (n * 2) 0 ∷ q i ∷ [])) ∙ sym (take-two rs n l)))

-- THE THEOREM: what is written for a valid object is what it has, in front of zeros
pub record PlainLayout (c : Counts) (b : Buffers) : Type 0 where
  pub blocks : (len : ℕ) → lay_blocks (view c b) len ≡ lay (take (c.blocks * 2) b.blocks) len
  pub words : (len : ℕ) → lay_words (view c b) len ≡ lay (take c.words b.words) len
  pub marks : (len : ℕ) → lay_marks (view c b) len ≡ lay (take c.words b.marks) len
  pub relocs : (len : ℕ) → lay_relocs (view c b) len ≡ lay (take (c.relocs * 2) b.relocs) len

pub plain-layout : (c : Counts) (b : Buffers) → Valid c b → PlainLayout c b
unfolding lay_blocks lay_words lay_marks lay_relocs view_blocks view_labels view_relocs
plain-layout c b v = record {
  blocks = λ len. ap (λ (x : List ℕ). lay x len) (ap head_cells (heads-carve hs cs fits) ∙ heads-plain c.blocks b.blocks v.blocks.room);
  words = λ len. ap (λ (x : List ℕ). lay x len) (ap (map word_of) all ∙ map-plain word_of (cell_row b.words b.marks) c.words b.words v.words.room_words (λ i l. word-plain (get_or b.words i 0) (get_or b.marks i 0) (v.words.rows i l).clear));
  marks = λ len. ap (λ (x : List ℕ). lay x len) (ap (map mark_of) all ∙ map-plain mark_of (cell_row b.words b.marks) c.words b.marks v.words.room_marks (λ i l. mark-plain (get_or b.words i 0) (get_or b.marks i 0) (v.words.rows i l).mark));
  relocs = λ len. ap (λ (x : List ℕ). lay x len) (relocs-plain (tab c.labels (label_row b.labels b.names)) c.relocs b.relocs b.labels b.names v.relocs.room
      (λ k l. row-index c.labels (label_row b.labels b.names) (sorted-tab name_order c.labels (label_row b.labels b.names) v.labels.up) (get_or b.relocs (k * 2 + 1) 0) (v.relocs.rows k l).row));
}
  where
    hs : Table ℕ ℕ
    hs = tab c.blocks (head_row b.blocks)

    cs : List Cell
    cs = tab c.words (cell_row b.words b.marks)

    sized : total (tab c.blocks (head_row b.blocks)) ≡ length (tab c.words (cell_row b.words b.marks))
    sized = total-tab (head_row b.blocks) c.blocks ∙ (v.blocks.sum ∙ sym (length-tab c.words (cell_row b.words b.marks)))

    fits : total (tab c.blocks (head_row b.blocks)) ≤ length (tab c.words (cell_row b.words b.marks))
    fits = omega (arith, sized)

    all : flat (carve (tab c.blocks (head_row b.blocks)) (tab c.words (cell_row b.words b.marks))) ≡ tab c.words (cell_row b.words b.marks)
    all =
        flat-carve (tab c.blocks (head_row b.blocks)) (tab c.words (cell_row b.words b.marks)) fits
        ∙ (ap (λ (x : ℕ). take x (tab c.words (cell_row b.words b.marks))) sized ∙ take-length (tab c.words (cell_row b.words b.marks)))
