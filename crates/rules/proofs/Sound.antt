-- Lent buffers that pass what 43 demands hold a good object, and their counts are the object's. Assumes nothing.
use mathlib.Core.Path.{◌≡◌, refl, sym, ◌∙◌, ap}
use mathlib.Core.Bool.{true}
use mathlib.Core.Logic.{◌⊎◌, inl, inr}
use mathlib.Core.Option.{some}
use mathlib.Core.List.{List, [], ◌∷◌, Memᴰ}
use Prim.Native.Nat.{ℕ, zero, suc, ◌+◌, ◌-◌, ◌*◌, ◌≤◌, ◌<◌, suc-le-suc, zero-le}
use native.Mathlib.Omega.{arith}
use lib.ListN.{length, take, drop, get_or, length-append, length-take, length-drop}
use lib.Seq.{length-take-le}
use Rattle.rules.specs.Tables.{Tri, less, same, more, Table, pick, look, Sorted, nat_order, name_order}
use Rattle.rules.specs.Objects.{Cell, unset, word, Lab, outer, defined, Name, Counts, counts_of, flat, cells_from, cells, heads, cell_at, lab_of, rel_at, good_name, Good, Full}
use Rattle.rules.specs.Buffers.{Buffers, tab, head_row, cell_of, cell_row, name_row, lab_from, lab_row, label_row, reloc_row, carve, view_blocks, view_labels, view_relocs, view, BlockRow, sum_of, BlocksOk, LabelsOk, Valid}
use Rattle.rules.proofs.Tables.{none-some}
use Rattle.rules.proofs.Rows.{length-tab, look-tab, look-row, sorted-tab}
use Rattle.rules.proofs.Runs.{look-append, or_split}
use Rattle.rules.proofs.Chains.{Chain, chain-full, chain-cells, chain-heads, held_in, total}
use Rattle.rules.proofs.Bools.{never}

abbrev next : (ℕ → ℕ × ℕ) → ℕ → ℕ × ℕ
next h k = h (suc k)

-- BLOCKS

pub sum-front : (h : ℕ → ℕ × ℕ) (n : ℕ) → sum_of h (suc n) ≡ (h 0).1 + sum_of (next h) n
sum-front h zero = omega arith
sum-front h (suc n) = let e = sum-front h n in omega (arith, e)

pub total-tab : (h : ℕ → ℕ × ℕ) (n : ℕ) → total (tab n h) ≡ sum_of h n
total-tab h zero = refl
total-tab h (suc n) = ap (λ (k : ℕ). (h 0).1 + k) (total-tab (next h) n) ∙ sym (sum-front h n)

-- the rules of the rows behind the first
rows_next : (y n : ℕ) (h : ℕ → ℕ × ℕ) → ((k : ℕ) → k < suc n → BlockRow y h k) → (k : ℕ) → k < n → BlockRow ((h 0).0 + (h 0).1) (next h) k
rows_next y n h r zero l = let b = r 1 (suc-le-suc l) in record { after = b.after; filled = b.filled; low = b.low }
rows_next y n h r (suc k) l = let b = r (suc (suc k)) (suc-le-suc l) in record { after = b.after; filled = b.filled; low = b.low }

pub chain-carve : (n : ℕ) (h : ℕ → ℕ × ℕ) (y : ℕ) (cs : List Cell) → ((k : ℕ) → k < n → BlockRow y h k) → total (tab n h) ≤ length cs → Chain y (carve (tab n h) cs)
chain-carve zero h y cs r l = tt
chain-carve (suc n) h y cs r l =
    let e : length (take (h 0).1 cs) ≡ (h 0).1 = length-take-le (h 0).1 cs (omega arith) in
    let b = r 0 (suc-le-suc zero-le) in
    (b.after, rw e b.filled, rw e (chain-carve n (next h) ((h 0).0 + (h 0).1) (drop (h 0).1 cs) (rows_next y n h r) (omega (arith, length-drop (h 0).1 cs))))

end_low : (n : ℕ) (h : ℕ → ℕ × ℕ) (y : ℕ) (cs : List Cell) → ((k : ℕ) → k < n → BlockRow y h k) → (d : ℕ × List Cell) → Memᴰ d (carve (tab n h) cs) → d.0 + length d.1 ≤ 65024
end_low zero h y cs r d m = elim m [ ]
end_low (suc n) h y cs r d (Memᴰ.head q) =
    let b = r 0 (suc-le-suc zero-le) in
    rw q (omega (arith, b.low, length-take (h 0).1 cs))
end_low (suc n) h y cs r d (Memᴰ.tail m) = end_low n (next h) ((h 0).0 + (h 0).1) (drop (h 0).1 cs) (rows_next y n h r) d m

pub length-carve : (hs : Table ℕ ℕ) (cs : List Cell) → length (carve hs cs) ≡ length hs
length-carve [] cs = refl
length-carve (h ∷ hs) cs = ap suc (length-carve hs (drop h.1 cs))

pub length-flat : (hs : Table ℕ ℕ) (cs : List Cell) → total hs ≤ length cs → length (flat (carve hs cs)) ≡ total hs
length-flat [] cs l = refl
length-flat (h ∷ hs) cs l =
    let e : length (take h.1 cs) ≡ h.1 = length-take-le h.1 cs (omega arith) in
    let t = length-flat hs (drop h.1 cs) (omega (arith, length-drop h.1 cs)) in
    omega (arith, length-append (take h.1 cs) (flat (carve hs (drop h.1 cs))))

-- the blocks of valid buffers
pub record BlocksGood (bs : Table ℕ (List Cell)) (n w : ℕ) : Type 0 where
  pub heads_up : Sorted nat_order (heads bs)
  pub cells_up : Sorted nat_order (cells bs)
  pub filled : Full bs
  pub low : (x : ℕ) (c : Cell) → look nat_order (cells bs) x ≡ some c → x < 65024
  pub count : length bs ≡ n
  pub words : length (flat bs) ≡ w

pub blocks-good : (n w : ℕ) (bs ws ms : List ℕ) → BlocksOk n w bs → BlocksGood (view_blocks n w bs ws ms) n w
unfolding view_blocks
blocks-good n w bs ws ms v =
    let hs : Table ℕ ℕ = tab n (head_row bs) in
    let cs : List Cell = tab w (cell_row ws ms) in
    let t : total (tab n (head_row bs)) ≡ w = total-tab (head_row bs) n ∙ v.sum in
    let l : total (tab n (head_row bs)) ≤ length (tab w (cell_row ws ms)) = omega (arith, length-tab w (cell_row ws ms)) in
    let c = chain-carve n (head_row bs) 0 (tab w (cell_row ws ms)) v.rows l in
    record {
      heads_up = chain-heads 0 (carve (tab n (head_row bs)) (tab w (cell_row ws ms))) c;
      cells_up = chain-cells 0 (carve (tab n (head_row bs)) (tab w (cell_row ws ms))) c;
      filled = chain-full 0 (carve (tab n (head_row bs)) (tab w (cell_row ws ms))) c;
      low = λ x d q. (
          let u = held_in (carve (tab n (head_row bs)) (tab w (cell_row ws ms))) x d q in
          omega (arith, u.2.1, end_low n (head_row bs) 0 (tab w (cell_row ws ms)) v.rows u.0 u.1));
      count = length-carve (tab n (head_row bs)) (tab w (cell_row ws ms)) ∙ length-tab n (head_row bs);
      words = length-flat (tab n (head_row bs)) (tab w (cell_row ws ms)) l ∙ t;
    }

-- LABELS

pub record LabelsGood (t : Table Name Lab) (n : ℕ) : Type 0 where
  pub up : Sorted name_order t
  pub named : (m : Name) (v : Lab) → look name_order t m ≡ some v → good_name m ≡ true
  pub addresses : (m : Name) (a : ℕ) → look name_order t m ≡ some (defined a) → a < 65536
  pub count : length t ≡ n

address-low : (x f a : ℕ) → lab_from x f ≡ defined a → x < 65536 → a < 65536
address-low x zero a e l = let q : x ≡ a = cc in omega arith
address-low x (suc f) a e l = never cc

pub labels-good : (n : ℕ) (ls ns : List ℕ) → LabelsOk n ls ns → LabelsGood (view_labels n ls ns) n
unfolding view_labels
labels-good n ls ns v = record {
  up = sorted-tab name_order n (label_row ls ns) v.up;
  named = λ m u q. (
      let w = look-row name_order n (label_row ls ns) m u q in
      let e : name_row ls ns w.0 ≡ m = ap (λ (r : Name × Lab). r.0) w.2 in
      rw (← e) (v.rows w.0 w.1).name);
  addresses = λ m a q. (
      let w = look-row name_order n (label_row ls ns) m (defined a) q in
      address-low (get_or ls (w.0 * 4) 0) (get_or ls (w.0 * 4 + 1) 0) a (ap (λ (r : Name × Lab). r.1) w.2) (v.rows w.0 w.1).address);
  count = length-tab n (label_row ls ns);
}

-- a row of valid labels is what the table says of its name
pub label-held : (n : ℕ) (ls ns : List ℕ) → LabelsOk n ls ns → (k : ℕ) → k < n → look name_order (view_labels n ls ns) (name_row ls ns k) ≡ some (lab_row ls k)
unfolding view_labels
label-held n ls ns v k l = look-tab name_order n (label_row ls ns) (sorted-tab name_order n (label_row ls ns) v.up) k l

-- ALL

relocs-zero : (c : Counts) (b : Buffers) → Valid c b → (x : ℕ) (n : Name) → rel_at (view c b) x ≡ some n → cell_at (view c b) x ≡ some (word 0)
unfolding view_relocs
relocs-zero c b v x n q =
    let w = look-row nat_order c.relocs (reloc_row b.relocs b.labels b.names) x n q in
    let e : get_or b.relocs (w.0 * 2) 0 ≡ x = ap (λ (r : ℕ × Name). r.0) w.2 in
    rw (← e) (v.relocs.rows w.0 w.1).zero.at

relocs-outer : (c : Counts) (b : Buffers) → Valid c b → (x : ℕ) (n : Name) → rel_at (view c b) x ≡ some n → lab_of (view c b) n ≡ some outer
unfolding view_relocs
relocs-outer c b v x n q =
    let w = look-row nat_order c.relocs (reloc_row b.relocs b.labels b.names) x n q in
    let e : name_row b.labels b.names (get_or b.relocs (w.0 * 2 + 1) 0) ≡ n = ap (λ (r : ℕ × Name). r.1) w.2 in
    let r = v.relocs.rows w.0 w.1 in
    rw (← e) (label-held c.labels b.labels b.names v.labels (get_or b.relocs (w.0 * 2 + 1) 0) r.row
    ∙ ap (λ (f : ℕ). some (lab_from (get_or b.labels (get_or b.relocs (w.0 * 2 + 1) 0 * 4) 0) f)) r.outside)

relocs-sorted : (c : Counts) (b : Buffers) → Valid c b → Sorted nat_order (view_relocs c.relocs b.relocs b.labels b.names)
unfolding view_relocs
relocs-sorted c b v = sorted-tab nat_order c.relocs (reloc_row b.relocs b.labels b.names) (record { next = v.relocs.up })

relocs-count : (n : ℕ) (rs ls ns : List ℕ) → length (view_relocs n rs ls ns) ≡ n
unfolding view_relocs
relocs-count n rs ls ns = length-tab n (reloc_row rs ls ns)

-- a fact of every cell
abbrev All : (Cell → Type 0) → List Cell → Type 0
All P [] = Unit {0}
All P (c ∷ cs) = P c × All P cs

module _ (P : Cell → Type 0) where
  all-tab : (n : ℕ) (f : ℕ → Cell) → ((i : ℕ) → P (f i)) → All P (tab n f)
  all-tab zero f h = tt
  all-tab (suc n) f h = (h 0, all-tab n (λ i. f (suc i)) (λ i. h (suc i)))

  all_take : (n : ℕ) (cs : List Cell) → All P cs → All P (take n cs)
  all_take zero cs a = tt
  all_take (suc n) [] a = tt
  all_take (suc n) (c ∷ cs) a = (a.0, all_take n cs a.1)

  all_drop : (n : ℕ) (cs : List Cell) → All P cs → All P (drop n cs)
  all_drop zero cs a = a
  all_drop (suc n) [] a = tt
  all_drop (suc n) (c ∷ cs) a = all_drop n cs a.1

  all-run : (s : ℕ) (cs : List Cell) → All P cs → (x : ℕ) (c : Cell) → look nat_order (cells_from s cs) x ≡ some c → P c
  all-run s [] a x c q = absurd (none-some q)
  all-run s (d ∷ cs) a x c q = go (nat_order.tri x s) q (all-run (suc s) cs a.1 x c)
    where
      go : (t : Tri ◌<◌ x s) → pick t d (look nat_order (cells_from (suc s) cs) x) ≡ some c → (look nat_order (cells_from (suc s) cs) x ≡ some c → P c) → P c
      go (less h) q ih = ih q
      go (same h) q ih = let e : d ≡ c = cc in rw e at a.0
      go (more h) q ih = ih q

  all-cells : (hs : Table ℕ ℕ) (cs : List Cell) → All P cs → (x : ℕ) (c : Cell) → look nat_order (cells (carve hs cs)) x ≡ some c → P c
  all-cells [] cs a x c q = absurd (none-some q)
  all-cells (h ∷ hs) cs a x c q =
      go (or_split (look nat_order (cells_from h.0 (take h.1 cs)) x) (look nat_order (cells (carve hs (drop h.1 cs))) x) c
      (sym (look-append nat_order (cells_from h.0 (take h.1 cs)) (cells (carve hs (drop h.1 cs))) x) ∙ q))
      (all-cells hs (drop h.1 cs) (all_drop h.1 cs a) x c)
    where
      go : (look nat_order (cells_from h.0 (take h.1 cs)) x ≡ some c) ⊎ (look nat_order (cells (carve hs (drop h.1 cs))) x ≡ some c)
          → (look nat_order (cells (carve hs (drop h.1 cs))) x ≡ some c → P c) → P c
      go (inl p) ih = all-run h.0 (take h.1 cs) (all_take h.1 cs a) x c p
      go (inr p) ih = ih p

-- a word of two bytes
abbrev Small : Cell → Type 0
Small unset = Unit {0}
Small (word w) = w < 65536

small-cell : (w m : ℕ) → w < 65536 → Small (cell_of w m)
small-cell w zero h = tt
small-cell w (suc m) h = h

small-words : (n w : ℕ) (bs ws ms : List ℕ) → ((i : ℕ) → get_or ws i 0 < 65536) → (x v : ℕ) → look nat_order (cells (view_blocks n w bs ws ms)) x ≡ some (word v) → v < 65536
unfolding view_blocks
small-words n w bs ws ms h x v q =
    all-cells Small (tab n (head_row bs)) (tab w (cell_row ws ms)) (all-tab Small w (cell_row ws ms) (λ i. small-cell (get_or ws i 0) (get_or ms i 0) (h i))) x (word v) q

-- THE THEOREMS: the words of a lent buffer are numbers of two bytes

pub valid-good : (c : Counts) (b : Buffers) → Valid c b → ((i : ℕ) → get_or b.words i 0 < 65536) → Good (view c b)
valid-good c b v h =
    let p = blocks-good c.blocks c.words b.blocks b.words b.marks v.blocks in
    let q = labels-good c.labels b.labels b.names v.labels in
    record {
      heads_up = p.heads_up;
      labels_up = q.up;
      relocs_up = relocs-sorted c b v;
      filled = p.filled;
      named = q.named;
      cells_up = p.cells_up;
      low = p.low;
      few_blocks = omega (arith, p.count, v.blocks.few);
      few_labels = omega (arith, q.count, v.labels.few);
      few_relocs = omega (arith, relocs-count c.relocs b.relocs b.labels b.names, v.relocs.few);
      reloc_zero = relocs-zero c b v;
      reloc_outer = relocs-outer c b v;
      words_low = small-words c.blocks c.words b.blocks b.words b.marks h;
      labels_low = q.addresses;
    }

pub valid-counts : (c : Counts) (b : Buffers) → Valid c b → counts_of (view c b) ≡ c
valid-counts c b v =
    let p = blocks-good c.blocks c.words b.blocks b.words b.marks v.blocks in
    let q = labels-good c.labels b.labels b.names v.labels in
    let r = relocs-count c.relocs b.relocs b.labels b.names in
    λ i. record { blocks = p.count i; words = p.words i; labels = q.count i; relocs = r i }
