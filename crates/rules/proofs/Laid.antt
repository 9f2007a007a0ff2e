-- The view of an object's layout is the object. Assumes nothing.
use mathlib.Core.Path.{◌≡◌, refl, sym, ◌∙◌, ap}
use mathlib.Core.Option.{some}
use mathlib.Core.List.{List, [], ◌∷◌, ◌++◌, map, append_assoc}
use Prim.Native.Nat.{ℕ, zero, suc, ◌+◌, ◌-◌, ◌*◌, ◌<◌, suc-le-suc, zero-le}
use native.Mathlib.Nat.{not-suc-le-zero, le_of_suc-le-suc}
use native.Mathlib.Omega.{arith}
use lib.ListN.{length, take, drop, get_or, length-append}
use lib.Seq.{take-append_seam, drop-append_seam, drop_at}
use Rattle.rules.specs.Tables.{Table, Tri, less, same, more, look, Sorted, pick, nat_order, name_order, Before}
use Rattle.rules.specs.Objects.{Cell, unset, word, Lab, outer, defined, address_of, Name, Object, counts_of, flat, heads, rel_at, Good}
use Rattle.rules.specs.Buffers.{tab, zeros, lay, Buffers, head_row, cell_of, cell_row, name_row, lab_from, label_row, reloc_row, carve, view_blocks, view_labels, view_relocs, view, head_cells, word_of, mark_of, flag_of, name_bytes, label_cells, pick_row, row_of, reloc_cells, lay_blocks, lay_words, lay_marks, lay_labels, lay_relocs, lay_names, layout}
use Rattle.rules.proofs.Tables.{none-some}
use Rattle.rules.proofs.Rows.{get_or-tab, tab-ext, tab-get_or, look-tab, get_or-lay}

-- BLOCKS

head-lay : (l : List ℕ) (len k : ℕ) → head_row (lay l len) k ≡ head_row l k
head-lay l len k = let a = get_or-lay l len (k * 2) in let b = get_or-lay l len (k * 2 + 1) in λ i. (a i, b i)

heads-cells : (hs : Table ℕ ℕ) → tab (length hs) (head_row (head_cells hs)) ≡ hs
heads-cells [] = refl
heads-cells (h ∷ hs) =
    ap (λ (t : Table ℕ ℕ). h ∷ t)
    (tab-ext (length hs) (λ k. head_row (head_cells (h ∷ hs)) (suc k)) (head_row (head_cells hs)) shift ∙ heads-cells hs)
  where
    shift : (k : ℕ) → k < length hs → head_row (head_cells (h ∷ hs)) (suc k) ≡ head_row (head_cells hs) k
    shift k l =
        let a : suc k * 2 ≡ suc (suc (k * 2)) = omega arith in
        let b : suc (suc (k * 2)) + 1 ≡ suc (suc (k * 2 + 1)) = omega arith in
        rw (a, b)

pub heads-back : (hs : Table ℕ ℕ) (len : ℕ) → tab (length hs) (head_row (lay (head_cells hs) len)) ≡ hs
heads-back hs len = tab-ext (length hs) (head_row (lay (head_cells hs) len)) (head_row (head_cells hs)) (λ k l. head-lay (head_cells hs) len k) ∙ heads-cells hs

cells-each : (cs : List Cell) → tab (length cs) (cell_row (map word_of cs) (map mark_of cs)) ≡ cs
cells-each [] = refl
cells-each (unset ∷ cs) = ap (λ (t : List Cell). unset ∷ t) (cells-each cs)
cells-each (word w ∷ cs) = ap (λ (t : List Cell). word w ∷ t) (cells-each cs)

pub cells-back : (cs : List Cell) (len len' : ℕ) → tab (length cs) (cell_row (lay (map word_of cs) len) (lay (map mark_of cs) len')) ≡ cs
cells-back cs len len' =
    tab-ext (length cs) (cell_row (lay (map word_of cs) len) (lay (map mark_of cs) len')) (cell_row (map word_of cs) (map mark_of cs))
    (λ k l. (let a = get_or-lay (map word_of cs) len k in let b = get_or-lay (map mark_of cs) len' k in λ i. cell_of (a i) (b i)))
    ∙ cells-each cs

pub carve-flat : (bs : Table ℕ (List Cell)) → carve (heads bs) (flat bs) ≡ bs
carve-flat [] = refl
carve-flat (b ∷ bs) = rw (take-append_seam, drop-append_seam) (ap (λ (t : Table ℕ (List Cell)). b ∷ t) (carve-flat bs))

pub length-heads : (bs : Table ℕ (List Cell)) → length (heads bs) ≡ length bs
length-heads [] = refl
length-heads (b ∷ bs) = ap suc (length-heads bs)

blocks-back : (o : Object) (x y z : ℕ) → view_blocks (length o.blocks) (length (flat o.blocks)) (lay_blocks o x) (lay_words o y) (lay_marks o z) ≡ o.blocks
unfolding view_blocks lay_blocks lay_words lay_marks
blocks-back o x y z =
    rw (← length-heads o.blocks) (rw (heads-back (heads o.blocks) x, cells-back (flat o.blocks) y z) (carve-flat o.blocks))

-- LABELS

lab-back : (v : Lab) → lab_from (address_of v) (flag_of v) ≡ v
lab-back outer = refl
lab-back (defined a) = refl

-- four cells further on
row-shift : (a b c d : ℕ) (l ns : List ℕ) (k : ℕ) → label_row (a ∷ b ∷ c ∷ d ∷ l) ns (suc k) ≡ label_row l ns k
row-shift a b c d l ns k =
    let e : suc k * 4 ≡ suc (suc (suc (suc (k * 4)))) = omega arith in
    let e1 : suc (suc (suc (suc (k * 4)))) + 1 ≡ suc (suc (suc (suc (k * 4 + 1)))) = omega arith in
    let e2 : suc (suc (suc (suc (k * 4)))) + 2 ≡ suc (suc (suc (suc (k * 4 + 2)))) = omega arith in
    let e3 : suc (suc (suc (suc (k * 4)))) + 3 ≡ suc (suc (suc (suc (k * 4 + 3)))) = omega arith in
    rw (e, e1, e2, e3)

regroup : (a b c d : List ℕ) → a ++ (b ++ c ++ d) ≡ a ++ b ++ (c ++ d)
regroup a b c d = simp append_assoc

labels-cells : (t : Table Name Lab) (p : ℕ) (pre post : List ℕ) → length pre ≡ p → tab (length t) (label_row (label_cells p t) (pre ++ (name_bytes t ++ post))) ≡ t
labels-cells [] p pre post e = refl
labels-cells (d ∷ t) p pre post e =
    let n : take (length d.0) (drop p (pre ++ (d.0 ++ name_bytes t ++ post))) ≡ d.0 =
    rw (drop_at pre (d.0 ++ name_bytes t ++ post) p e, append_assoc) (take-append_seam d.0 (name_bytes t ++ post)) in
    let first : label_row (label_cells p (d ∷ t)) (pre ++ (name_bytes (d ∷ t) ++ post)) 0 ≡ d = (λ i. (n i, lab-back d.1 i)) in
    let rest : tab (length t) (λ k. label_row (label_cells p (d ∷ t)) (pre ++ (name_bytes (d ∷ t) ++ post)) (suc k)) ≡ t =
    tab-ext (length t) _ (label_row (label_cells (p + length d.0) t) (pre ++ (name_bytes (d ∷ t) ++ post)))
    (λ k l. row-shift (address_of d.1) (flag_of d.1) p (length d.0) (label_cells (p + length d.0) t) (pre ++ (name_bytes (d ∷ t) ++ post)) k)
    ∙ (rw (regroup pre d.0 (name_bytes t) post) (labels-cells t (p + length d.0) (pre ++ d.0) post (length-append pre d.0 ∙ ap (λ (k : ℕ). k + length d.0) e))) in
    λ i. first i ∷ rest i

label-lay : (l ns : List ℕ) (len k : ℕ) → label_row (lay l len) ns k ≡ label_row l ns k
label-lay l ns len k =
    let a = get_or-lay l len (k * 4) in let b = get_or-lay l len (k * 4 + 1) in let c = get_or-lay l len (k * 4 + 2) in let d = get_or-lay l len (k * 4 + 3) in
    λ i. (take (d i) (drop (c i) ns), lab_from (a i) (b i))

pub labels-back : (t : Table Name Lab) (len len' : ℕ) → tab (length t) (label_row (lay (label_cells 0 t) len) (lay (name_bytes t) len')) ≡ t
labels-back t len len' =
    tab-ext (length t) _ (label_row (label_cells 0 t) (lay (name_bytes t) len')) (λ k l. label-lay (label_cells 0 t) (lay (name_bytes t) len') len k)
    ∙ labels-cells t 0 [] (zeros (len' - length (name_bytes t))) refl

-- RELOCATIONS

-- the row of a name that the table has
pub row-of : (t : Table Name Lab) (n : Name) (v : Lab) (d : Name × Lab) → look name_order t n ≡ some v → (row_of t n < length t) × (get_or t (row_of t n) d ≡ (n, v))
row-of [] n v d q = absurd (none-some q)
row-of (e ∷ t) n v d q = go (name_order.tri n e.0) q (row-of t n v d)
  where
    go : (c : Tri Before n e.0) → pick c e.1 (look name_order t n) ≡ some v → (look name_order t n ≡ some v → (row_of t n < length t) × (get_or t (row_of t n) d ≡ (n, v)))
        → (pick_row c (suc (row_of t n)) < suc (length t)) × (get_or (e ∷ t) (pick_row c (suc (row_of t n))) d ≡ (n, v))
    go (less h) q ih = let w = ih q in (suc-le-suc w.0, w.1)
    go (same p) q ih = (suc-le-suc zero-le, (let w : e.1 ≡ v = cc in λ i. (sym p i, w i)))
    go (more h) q ih = let w = ih q in (suc-le-suc w.0, w.1)

pub name_back : (t : Table Name Lab) (n : Name) (v : Lab) (len len' : ℕ) → look name_order t n ≡ some v → name_row (lay (label_cells 0 t) len) (lay (name_bytes t) len') (row_of t n) ≡ n
name_back t n v len len' q =
    let d : Name × Lab = ([], outer) in
    let w = row-of t n v ([], outer) q in
    let f : ℕ → Name × Lab = label_row (lay (label_cells 0 t) len) (lay (name_bytes t) len') in
    ap (λ (e : Name × Lab). e.0) (sym (get_or-tab (length t) (label_row (lay (label_cells 0 t) len) (lay (name_bytes t) len')) (row_of t n) ([], outer) w.0))
    ∙ (ap (λ (u : Table Name Lab). (get_or u (row_of t n) ([], outer)).0) (labels-back t len len') ∙ ap (λ (e : Name × Lab). e.0) w.1)

pub reloc-rows : (ls : Table Name Lab) (rs : Table ℕ Name) (k : ℕ) → k < length rs
    → (get_or (reloc_cells ls rs) (k * 2) 0 ≡ (get_or rs k (0, [])).0) × (get_or (reloc_cells ls rs) (k * 2 + 1) 0 ≡ row_of ls (get_or rs k (0, [])).1)
reloc-rows ls [] k l = absurd (not-suc-le-zero l)
reloc-rows ls (r ∷ rs) zero l = (refl, refl)
reloc-rows ls (r ∷ rs) (suc k) l =
    let w = reloc-rows ls rs k (le_of_suc-le-suc l) in
    let a : suc k * 2 ≡ suc (suc (k * 2)) = omega arith in
    let b : suc (suc (k * 2)) + 1 ≡ suc (suc (k * 2 + 1)) = omega arith in
    (rw a w.0, rw (a, b) w.1)

relocs-back : (o : Object) (x y z : ℕ) → Good o → view_relocs (length o.relocs) (lay_relocs o x) (lay_labels o y) (lay_names o z) ≡ o.relocs
unfolding view_relocs lay_relocs lay_labels lay_names
relocs-back o x y z g =
    tab-ext (length o.relocs) _ (λ k. get_or o.relocs k (0, [])) row ∙ tab-get_or o.relocs (0, [])
  where
    sorted : Sorted nat_order (tab (length o.relocs) (λ k. get_or o.relocs k (0, [])))
    sorted = rw (tab-get_or o.relocs (0, [])) g.relocs_up

    held : (k : ℕ) → k < length o.relocs → rel_at o (get_or o.relocs k (0, [])).0 ≡ some (get_or o.relocs k (0, [])).1
    held k l = rw (tab-get_or o.relocs (0, [])) at (look-tab nat_order (length o.relocs) (λ k. get_or o.relocs k (0, [])) sorted k l)

    row : (k : ℕ) → k < length o.relocs → reloc_row (lay (reloc_cells o.labels o.relocs) x) (lay (label_cells 0 o.labels) y) (lay (name_bytes o.labels) z) k ≡ get_or o.relocs k (0, [])
    row k l =
        let r : ℕ × Name = get_or o.relocs k (0, []) in
        let w = reloc-rows o.labels o.relocs k l in
        let a = get_or-lay (reloc_cells o.labels o.relocs) x (k * 2) ∙ w.0 in
        let b = get_or-lay (reloc_cells o.labels o.relocs) x (k * 2 + 1) ∙ w.1 in
        let n = ap (name_row (lay (label_cells 0 o.labels) y) (lay (name_bytes o.labels) z)) b
        ∙ name_back o.labels (get_or o.relocs k (0, [])).1 outer y z (g.reloc_outer (get_or o.relocs k (0, [])).0 (get_or o.relocs k (0, [])).1 (held k l)) in
        λ i. (a i, n i)

labels-lay : (o : Object) (y z : ℕ) → view_labels (length o.labels) (lay_labels o y) (lay_names o z) ≡ o.labels
unfolding view_labels lay_labels lay_names
labels-lay o y z = labels-back o.labels y z

-- THE THEOREM: whatever buffers it is written into
pub view-layout : (o : Object) (b : Buffers) → Good o → view (counts_of o) (layout o b) ≡ o
view-layout o b g =
    let p = blocks-back o (length b.blocks) (length b.words) (length b.marks) in
    let q = labels-lay o (length b.labels) (length b.names) in
    let r = relocs-back o (length b.relocs) (length b.labels) (length b.names) g in
    λ i. record { blocks = p i; labels = q i; relocs = r i }

-- two objects with the same counts and the same layout are one
pub layout-one : (o p : Object) (b c : Buffers) → Good o → Good p → counts_of o ≡ counts_of p → layout o b ≡ layout p c → o ≡ p
layout-one o p b c g h e l = sym (view-layout o b g) ∙ ((λ i. view (e i) (l i)) ∙ view-layout p c h)
