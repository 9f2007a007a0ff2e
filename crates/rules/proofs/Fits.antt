-- The layout of a good object, in buffers that hold it, passes what 43 demands. Assumes nothing.
use mathlib.Core.Path.{◌≡◌, refl, sym, ◌∙◌, ap}
use mathlib.Core.Bool.{Bool, true, false, ◌&&◌, ◌||◌}
use mathlib.Core.Option.{some}
use mathlib.Core.List.{List, [], ◌∷◌, map, Memᴰ}
use Prim.Native.Nat.{ℕ, zero, suc, ◌+◌, ◌-◌, ◌*◌, ◌≤◌, ◌<◌, suc-le-suc, zero-le}
use native.Mathlib.Nat.{not-suc-le-zero, le_of_suc-le-suc}
use native.Mathlib.Omega.{arith}
use lib.Dec.{ltb, leb}
use lib.ListN.{length, get_or, length-append}
use borrow.Author.Tests.{ltb-true, ltb-false, leb-true}
use Rattle.rules.specs.Base.{when◌then◌else◌}
use Rattle.rules.specs.Tables.{Table, nat_order, name_order}
use Rattle.rules.specs.Objects.{Cell, unset, word, Lab, outer, defined, address_of, Name, Object, Counts, counts_of, flat, cells, heads, cell_at, lab_of, rel_at, label_token, good_name, Good, Full}
use Rattle.rules.specs.Buffers.{Buffers, short, least, lent_words, tab, lay, head_row, name_row, label_row, reloc_row, view, view_relocs, head_cells, word_of, mark_of, flag_of, name_bytes, label_cells, row_of, reloc_cells, lay_blocks, lay_words, lay_marks, lay_labels, lay_relocs, lay_names, layout, end_of, BlockRow, BlocksOk, WordRow, WordsOk, LabelRow, LabelsOk, RelocRow, RelocsOk, Valid}
use Rattle.rules.proofs.Rows.{length-lay, get_or-tab, tab-get_or, look-tab, get_or-lay, tab-sorted}
use Rattle.rules.proofs.Laid.{heads-back, length-heads, labels-back, reloc-rows, row-of, view-layout}
use Rattle.rules.proofs.Runs.{From}
use Rattle.rules.proofs.Chains.{Chain, cells-chain, in_held, total}
use Rattle.rules.proofs.Sound.{total-tab, valid-good, valid-counts}
use Rattle.rules.proofs.Bools.{never}

-- the buffers hold it
pub record Holds (o : Object) (b : Buffers) : Type 0 where
  pub blocks : length o.blocks * 2 ≤ length b.blocks
  pub words : length (flat o.blocks) ≤ length b.words
  pub marks : length (flat o.blocks) ≤ length b.marks
  pub labels : length o.labels * 4 ≤ length b.labels
  pub relocs : length o.relocs * 2 ≤ length b.relocs
  pub names : length (name_bytes o.labels) ≤ length b.names

-- BLOCKS

abbrev Ends : Table ℕ (List Cell) → Type 0
Ends bs = (d : ℕ × List Cell) → Memᴰ d bs → d.0 + length d.1 ≤ 65024

rows-chain : (n : ℕ) (h : ℕ → ℕ × ℕ) (y : ℕ) (bs : Table ℕ (List Cell)) → tab n h ≡ heads bs → Chain y bs → Ends bs → (k : ℕ) → k < n → BlockRow y h k
rows-chain zero h y bs e c f k l = absurd (not-suc-le-zero l)
rows-chain (suc n) h y [] e c f k l = never cc
rows-chain (suc n) h y (b ∷ bs) e c f zero l =
    let q : h 0 ≡ (b.0, length b.1) = cc in
    record { after = rw q c.0; filled = rw q c.1; low = rw q (f b (Memᴰ.head refl)) }
rows-chain (suc n) h y (b ∷ bs) e c f (suc k) l =
    let q : h 0 ≡ (b.0, length b.1) = cc in
    let t : tab n (λ i. h (suc i)) ≡ heads bs = cc in
    let r = rows-chain n (λ i. h (suc i)) (b.0 + length b.1) bs t c.2 (λ d m. f d (Memᴰ.tail m)) k (le_of_suc-le-suc l) in
    record { after = up k q r.after; filled = r.filled; low = r.low }
  where
    up : (k : ℕ) → h 0 ≡ (b.0, length b.1) → end_of (b.0 + length b.1) (λ i. h (suc i)) k ≤ (h (suc k)).0 → (h k).0 + (h k).1 ≤ (h (suc k)).0
    up zero q a = rw q a
    up (suc k) q a = a

total-heads : (bs : Table ℕ (List Cell)) → total (heads bs) ≡ length (flat bs)
total-heads [] = refl
total-heads (b ∷ bs) = let e = total-heads bs in omega (arith, length-append b.1 (flat bs))

length-head_cells : (hs : Table ℕ ℕ) → length (head_cells hs) ≡ length hs * 2
length-head_cells [] = refl
length-head_cells (h ∷ hs) = let e = length-head_cells hs in omega arith

-- WORDS

length-each : (f : Cell → ℕ) (cs : List Cell) → length (map f cs) ≡ length cs
length-each f [] = refl
length-each f (c ∷ cs) = ap suc (length-each f cs)

word_row : (cs : List Cell) (i : ℕ) → WordRow (map word_of cs) (map mark_of cs) i
word_row [] i = record { mark = omega arith; clear = λ e. refl }
word_row (unset ∷ cs) zero = record { mark = omega arith; clear = λ e. refl }
word_row (word w ∷ cs) zero = record { mark = omega arith; clear = λ e. absurd (omega arith) }
word_row (unset ∷ cs) (suc i) = let r = word_row cs i in record { mark = r.mark; clear = r.clear }
word_row (word w ∷ cs) (suc i) = let r = word_row cs i in record { mark = r.mark; clear = r.clear }

pub words-ok : (o : Object) (x y : ℕ) → length (flat o.blocks) ≤ x → length (flat o.blocks) ≤ y → WordsOk (length (flat o.blocks)) (lay_words o x) (lay_marks o y)
unfolding lay_words lay_marks
words-ok o x y p q = record {
  room_words = omega (arith, length-lay (map word_of (flat o.blocks)) x (omega (arith, length-each word_of (flat o.blocks))));
  room_marks = omega (arith, length-lay (map mark_of (flat o.blocks)) y (omega (arith, length-each mark_of (flat o.blocks))));
  rows = λ i l. (
      let r = word_row (flat o.blocks) i in
      let a = get_or-lay (map word_of (flat o.blocks)) x i in
      let b = get_or-lay (map mark_of (flat o.blocks)) y i in
      record { mark = rw b r.mark; clear = λ e. a ∙ r.clear (sym b ∙ e) });
}

pub blocks-ok : (o : Object) (x : ℕ) → Good o → length o.blocks * 2 ≤ x → BlocksOk (length o.blocks) (length (flat o.blocks)) (lay_blocks o x)
unfolding lay_blocks
blocks-ok o x w l =
    let e : tab (length o.blocks) (head_row (lay (head_cells (heads o.blocks)) x)) ≡ heads o.blocks =
    rw (← length-heads o.blocks) (heads-back (heads o.blocks) x) in
    record {
      few = w.few_blocks;
      room = omega (arith, length-lay (head_cells (heads o.blocks)) x (omega (arith, length-head_cells (heads o.blocks), length-heads o.blocks)));
      rows = rows-chain (length o.blocks) (head_row (lay (head_cells (heads o.blocks)) x)) 0 o.blocks e
          (cells-chain 0 o.blocks w.filled w.cells_up (from_zero (cells o.blocks))) ends;
      sum = sym (total-tab (head_row (lay (head_cells (heads o.blocks)) x)) (length o.blocks)) ∙ (ap total e ∙ total-heads o.blocks);
    }
  where
    from_zero : (t : Table ℕ Cell) → From 0 t
    from_zero [] = tt
    from_zero (e ∷ t) = (zero-le, from_zero t)

    full-mem : (b : Table ℕ (List Cell)) (d : ℕ × List Cell) → Full b → Memᴰ d b → 0 < length d.1
    full-mem [] d f m = elim m [ ]
    full-mem (e ∷ b) d f (Memᴰ.head q) = rw q f.0
    full-mem (e ∷ b) d f (Memᴰ.tail m) = full-mem b d f.1 m

    ends : Ends o.blocks
    ends d m =
        let p = full-mem o.blocks d w.filled m in
        let u = in_held o.blocks (d.0 + (length d.1 - 1)) d m (omega arith, omega arith) in
        omega (arith, w.low (d.0 + (length d.1 - 1)) u.0 u.1)

-- LABELS

-- the cells of row k of labels whose names begin at p
pub record RowCells (t : Table Name Lab) (p : ℕ) (k : ℕ) : Type 0 where
  pub address : get_or (label_cells p t) (k * 4) 0 ≡ address_of (get_or t k ([], outer)).1
  pub flag : get_or (label_cells p t) (k * 4 + 1) 0 ≡ flag_of (get_or t k ([], outer)).1
  pub size : get_or (label_cells p t) (k * 4 + 3) 0 ≡ length (get_or t k ([], outer)).0
  pub place : get_or (label_cells p t) (k * 4 + 2) 0 + get_or (label_cells p t) (k * 4 + 3) 0 ≤ p + length (name_bytes t)

pub row-cells : (t : Table Name Lab) (p k : ℕ) → k < length t → RowCells t p k
row-cells [] p k l = absurd (not-suc-le-zero l)
row-cells (e ∷ t) p zero l = record { address = refl; flag = refl; size = refl; place = omega (arith, length-append e.0 (name_bytes t)) }
row-cells (e ∷ t) p (suc k) l =
    let r = row-cells t (p + length e.0) k (le_of_suc-le-suc l) in
    let e0 : suc k * 4 ≡ suc (suc (suc (suc (k * 4)))) = omega arith in
    let e1 : suc k * 4 + 1 ≡ suc (suc (suc (suc (k * 4 + 1)))) = omega arith in
    let e2 : suc k * 4 + 2 ≡ suc (suc (suc (suc (k * 4 + 2)))) = omega arith in
    let e3 : suc k * 4 + 3 ≡ suc (suc (suc (suc (k * 4 + 3)))) = omega arith in
    record {
      address = rw e0 r.address;
      flag = rw e1 r.flag;
      size = rw e3 r.size;
      place = rw (e2, e3) (omega (arith, r.place, length-append e.0 (name_bytes t)));
    }

length-label_cells : (t : Table Name Lab) (p : ℕ) → length (label_cells p t) ≡ length t * 4
length-label_cells [] p = refl
length-label_cells (e ∷ t) p = let q = length-label_cells t (p + length e.0) in omega arith

flag-low : (v : Lab) → flag_of v ≤ 1
flag-low outer = omega arith
flag-low (defined a) = omega arith

flag-outer : (v : Lab) → flag_of v ≡ 1 → address_of v ≡ 0
flag-outer outer e = refl
flag-outer (defined a) e = absurd (omega arith)

address-fits : (v : Lab) → ((a : ℕ) → v ≡ defined a → a < 65536) → address_of v < 65536
address-fits outer h = omega arith
address-fits (defined a) h = h a refl

-- a label of the table is what it says of its name
label-held : (o : Object) → Good o → (k : ℕ) → k < length o.labels → lab_of o (get_or o.labels k ([], outer)).0 ≡ some (get_or o.labels k ([], outer)).1
label-held o g k l =
    rw (tab-get_or o.labels ([], outer))
    at (look-tab name_order (length o.labels) (λ i. get_or o.labels i ([], outer)) (rw (tab-get_or o.labels ([], outer)) g.labels_up) k l)

pub labels-ok : (o : Object) (x y : ℕ) → Good o → length o.labels * 4 ≤ x → length (name_bytes o.labels) ≤ y → LabelsOk (length o.labels) (lay_labels o x) (lay_names o y)
unfolding lay_labels lay_names
labels-ok o x y w p q = record {
  few = w.few_labels;
  room = omega (arith, length-lay (label_cells 0 o.labels) x (omega (arith, length-label_cells o.labels 0)));
  rows = row;
  up = tab-sorted name_order (length o.labels) (label_row (lay (label_cells 0 o.labels) x) (lay (name_bytes o.labels) y)) (rw (labels-back o.labels x y) w.labels_up);
}
  where
    named : (k : ℕ) → k < length o.labels → name_row (lay (label_cells 0 o.labels) x) (lay (name_bytes o.labels) y) k ≡ (get_or o.labels k ([], outer)).0
    named k l =
        ap (λ (e : Name × Lab). e.0)
        (sym (get_or-tab (length o.labels) (label_row (lay (label_cells 0 o.labels) x) (lay (name_bytes o.labels) y)) k ([], outer) l)
        ∙ ap (λ (u : Table Name Lab). get_or u k ([], outer)) (labels-back o.labels x y))

    row : (k : ℕ) → k < length o.labels → LabelRow (lay (label_cells 0 o.labels) x) (lay (name_bytes o.labels) y) k
    row k l =
        let r = row-cells o.labels 0 k l in
        let g : (i : ℕ) → get_or (lay (label_cells 0 o.labels) x) i 0 ≡ get_or (label_cells 0 o.labels) i 0 = get_or-lay (label_cells 0 o.labels) x in
        let a = g (k * 4) ∙ r.address in
        let f = g (k * 4 + 1) ∙ r.flag in
        let h = label-held o w k l in
        record {
          address = rw a (address-fits (get_or o.labels k ([], outer)).1 (λ b e. w.labels_low (get_or o.labels k ([], outer)).0 b (h ∙ ap some e)));
          flag = rw f (flag-low (get_or o.labels k ([], outer)).1);
          outside = λ e. a ∙ flag-outer (get_or o.labels k ([], outer)).1 (sym f ∙ e);
          place = omega (arith, g (k * 4 + 2), g (k * 4 + 3), r.place, length-lay (name_bytes o.labels) y q);
          name = rw (named k l) (w.named (get_or o.labels k ([], outer)).0 (get_or o.labels k ([], outer)).1 h);
        }

-- RELOCATIONS

pub length-reloc_cells : (ls : Table Name Lab) (rs : Table ℕ Name) → length (reloc_cells ls rs) ≡ length rs * 2
length-reloc_cells ls [] = refl
length-reloc_cells ls (r ∷ rs) = let e = length-reloc_cells ls rs in omega arith

pub relocs-ok : (o : Object) (b : Buffers) → Good o → Holds o b
    → RelocsOk (length o.relocs) (length o.blocks) (length (flat o.blocks)) (length o.labels)
    (layout o b).blocks (layout o b).words (layout o b).marks (layout o b).labels (layout o b).relocs
unfolding lay_labels lay_relocs lay_names view_relocs
relocs-ok o b w q = record {
  few = w.few_relocs;
  room = omega (arith, q.relocs, length-lay (reloc_cells o.labels o.relocs) (length b.relocs) (omega (arith, q.relocs, length-reloc_cells o.labels o.relocs)));
  rows = row;
  up = (tab-sorted nat_order (length o.relocs) (reloc_row (lay (reloc_cells o.labels o.relocs) (length b.relocs)) (lay (label_cells 0 o.labels) (length b.labels)) (lay (name_bytes o.labels) (length b.names))) (rw (ap (λ (x : Object). x.relocs) (view-layout o b (w))) w.relocs_up)).next;
}
  where
    held : (k : ℕ) → k < length o.relocs → rel_at o (get_or o.relocs k (0, [])).0 ≡ some (get_or o.relocs k (0, [])).1
    held k l =
        rw (tab-get_or o.relocs (0, []))
        at (look-tab nat_order (length o.relocs) (λ i. get_or o.relocs i (0, [])) (rw (tab-get_or o.relocs (0, [])) w.relocs_up) k l)

    row : (k : ℕ) → k < length o.relocs → RelocRow (length o.blocks) (length (flat o.blocks)) (length o.labels) (layout o b).blocks (layout o b).words (layout o b).marks (lay (label_cells 0 o.labels) (length b.labels)) (lay (reloc_cells o.labels o.relocs) (length b.relocs)) k
    row k l =
        let c = reloc-rows o.labels o.relocs k l in
        let a = get_or-lay (reloc_cells o.labels o.relocs) (length b.relocs) (k * 2) ∙ c.0 in
        let j = get_or-lay (reloc_cells o.labels o.relocs) (length b.relocs) (k * 2 + 1) ∙ c.1 in
        let h = held k l in
        let u = row-of o.labels (get_or o.relocs k (0, [])).1 outer ([], outer) (w.reloc_outer (get_or o.relocs k (0, [])).0 (get_or o.relocs k (0, [])).1 h) in
        let f = get_or-lay (label_cells 0 o.labels) (length b.labels) (row_of o.labels (get_or o.relocs k (0, [])).1 * 4 + 1)
        ∙ ((row-cells o.labels 0 (row_of o.labels (get_or o.relocs k (0, [])).1) u.0).flag ∙ ap (λ (e : Name × Lab). flag_of e.1) u.1) in
        record {
          row = rw j u.0;
          outside = rw j f;
          zero = record { at = rw a (ap (λ (x : Object). cell_at x (get_or o.relocs k (0, [])).0) (view-layout o b (w)) ∙ w.reloc_zero (get_or o.relocs k (0, [])).0 (get_or o.relocs k (0, [])).1 h) };
        }

-- WHICH BUFFERS HOLD IT: those that 42 lets pass, with as many lent words as the object has

neither : (p q : Bool) → (p || q) ≡ false → (p ≡ false) × (q ≡ false)
neither true q e = never cc
neither false q e = (refl, e)

pub least-left : (m n : ℕ) → least m n ≤ m
unfolding least when◌then◌else◌
least-left m n = go (ltb m n) refl
  where
    go : (t : Bool) → ltb m n ≡ t → (when t then m else n) ≤ m
    go true e = omega arith
    go false e = ltb-false m n e

pub least-right : (m n : ℕ) → least m n ≤ n
unfolding least when◌then◌else◌
least-right m n = go (ltb m n) refl
  where
    go : (t : Bool) → ltb m n ≡ t → (when t then m else n) ≤ n
    go true e = omega (arith, ltb-true m n e)
    go false e = omega arith

both_right : (p q : Bool) → (p && q) ≡ true → q ≡ true
both_right true q e = e
both_right false q e = never cc

pub good_length : (n : Name) → good_name n ≡ true → length n ≤ 64
unfolding good_name
good_length n e = leb-true (length n) 64 (both_right (label_token n) (leb (length n) 64) e)

names-fit : (t : Table Name Lab) → ((k : ℕ) → k < length t → length (get_or t k ([], outer)).0 ≤ 64) → length (name_bytes t) ≤ length t * 64
names-fit [] h = omega arith
names-fit (e ∷ t) h = omega (arith, length-append e.0 (name_bytes t), h 0 (suc-le-suc zero-le), names-fit t (λ k l. h (suc k) (suc-le-suc l)))

-- what 42 lets pass
pub record Long (b : Buffers) : Type 0 where
  pub blocks : 128 ≤ length b.blocks
  pub labels : 4096 ≤ length b.labels
  pub relocs : 2048 ≤ length b.relocs
  pub names : 65536 ≤ length b.names

pub long : (b : Buffers) → short b ≡ false → Long b
unfolding short
long b e =
    let y = neither _ (ltb (length b.names) 65536) e in
    let x = neither _ (ltb (length b.relocs) 2048) y.0 in
    let w = neither (ltb (length b.blocks) 128) (ltb (length b.labels) 4096) x.0 in
    record {
      blocks = ltb-false (length b.blocks) 128 w.0;
      labels = ltb-false (length b.labels) 4096 w.1;
      relocs = ltb-false (length b.relocs) 2048 x.1;
      names = ltb-false (length b.names) 65536 y.1;
    }

-- the lent words lie in the word buffer and in its marks
pub lent-in-words : (ws ms : List ℕ) → lent_words ws ms ≤ length ws
unfolding lent_words
lent-in-words ws ms = omega (arith, least-left (least (length ws) (length ms)) 65024, least-left (length ws) (length ms))

pub lent-in-marks : (ws ms : List ℕ) → lent_words ws ms ≤ length ms
unfolding lent_words
lent-in-marks ws ms = omega (arith, least-left (least (length ws) (length ms)) 65024, least-right (length ws) (length ms))

pub holds : (o : Object) (b : Buffers) → Good o → short b ≡ false → length (flat o.blocks) ≤ lent_words b.words b.marks → Holds o b
holds o b g e l =
    let r = long b e in
    record {
      blocks = omega (arith, g.few_blocks, r.blocks);
      words = omega (arith, lent-in-words b.words b.marks);
      marks = omega (arith, lent-in-marks b.words b.marks);
      labels = omega (arith, g.few_labels, r.labels);
      relocs = omega (arith, g.few_relocs, r.relocs);
      names = omega (arith, g.few_labels, names-fit o.labels named, r.names);
    }
  where
    named : (k : ℕ) → k < length o.labels → length (get_or o.labels k ([], outer)).0 ≤ 64
    named k l = good_length (get_or o.labels k ([], outer)).0 (g.named (get_or o.labels k ([], outer)).0 (get_or o.labels k ([], outer)).1 (label-held o g k l))

-- THE THEOREMS

pub holds-valid : (o : Object) (b : Buffers) → Good o → Holds o b → Valid (counts_of o) (layout o b)
holds-valid o b w q = record {
  blocks = blocks-ok o (length b.blocks) w q.blocks;
  words = words-ok o (length b.words) (length b.marks) q.words q.marks;
  labels = labels-ok o (length b.labels) (length b.names) w q.labels q.names;
  relocs = relocs-ok o b w q;
}

pub layout-valid : (o : Object) (b : Buffers) → Good o → short b ≡ false → length (flat o.blocks) ≤ lent_words b.words b.marks → Valid (counts_of o) (layout o b)
layout-valid o b g e l = holds-valid o b g (holds o b g e l)

-- an object that stands in valid buffers is valid again where it is laid
pub layout-again : (c : Counts) (b p : Buffers) → Valid c b → ((i : ℕ) → get_or b.words i 0 < 65536) → short p ≡ false → c.words ≤ lent_words p.words p.marks
    → Valid c (layout (view c b) p)
layout-again c b p v h e l =
    let q = valid-counts c b v in
    rw q at (layout-valid (view c b) p (valid-good c b v h) e (omega (arith, ap (λ (d : Counts). d.words) q)))
