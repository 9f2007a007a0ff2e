-- The union of two good objects that do not clash: what it holds, and that it is good where its counts are within the capacities. Assumes nothing.
use mathlib.Core.Path.{◌≡◌, refl, sym, ◌∙◌, ap}
use mathlib.Core.Bool.{true, false}
use mathlib.Core.Logic.{◌⊎◌, inl, inr}
use mathlib.Core.Option.{Option, none, some}
use mathlib.Core.List.Memᴰ
use mathlib.Core.List.{[], ◌∷◌, Memᴰ}
use Prim.Native.Nat.{ℕ, ◌<◌}
use native.Mathlib.Decide.{ℕ_discrete}
use Rattle.rules.specs.Capacities.{word_room}
use Rattle.rules.specs.Tables.{merge, Table, look, Sorted, nat_order, name_order, newer}
use Rattle.rules.specs.Objects.{Cell, word, Lab, outer, defined, Name, Object, counts_of, cells, heads, head_at, cell_at, lab_of, rel_at, good_name, Good}
use Rattle.rules.specs.Linking.{shared, join_lab, all_labels, all_blocks, all_relocs, settle, patch, stay, union}
use Rattle.rules.proofs.Bools.{never}
use Rattle.rules.proofs.Tables.{none-some, join, sorted_merge, look-merge}
use Rattle.rules.proofs.Runs.{or_else, or_split}
use Rattle.rules.proofs.Chains.{chain-full, chain-cells}
use Rattle.laws_link.specs.Joins.{Overlap, Differ}
use Rattle.laws_link.proofs.Mapped.{join-newer, omap, look-map, sorted-map, bind, look-sieve, sorted-sieve}
use Rattle.laws_link.proofs.Blocks.{cells-turned, full-turned, start-held}
use Rattle.laws_link.proofs.Tests.{overlap-shared}
use Rattle.laws_link.proofs.Answers.{written, union-blocks, union-labels, union-relocs, heads-union, blocks-merged, Held}
use Rattle.laws_link.proofs.Gathers.{keep, Under, Gathers, under-refl, some_same, settle-open, outer-up, keep_some}

-- VALUES THAT MAY BE NOTHING

or-none : {A : Type 0} (u v : Option A) → v ≡ none → or_else u v ≡ u
or-none none v q = q
or-none (some u) v q = refl

none_or : {A : Type 0} (u v : Option A) → u ≡ none → or_else u v ≡ v
none_or u v q = rw q

pub is_none : {A : Type 0} (u : Option A) → ((a : A) → u ≡ some a → ⊥) → u ≡ none
is_none none h = refl
is_none (some a) h = absurd (h a refl)

omap-some : {A B : Type 0} (f : A → B) (u : Option A) (b : B) → omap f u ≡ some b → (a : A) × (u ≡ some a) × (f a ≡ b)
omap-some f none b q = absurd (none-some q)
omap-some f (some a) b q = (a, refl, some_same q)

bind-keep : (labs : Name → Option Lab) (r : Option Name) → bind (λ n. stay n (labs n)) r ≡ keep labs r
bind-keep labs none = refl
bind-keep labs (some n) = refl

-- LABELS OF BOTH

under_left : (u v : Option Lab) → Under u (join join_lab u v)
under_left none v = tt
under_left (some outer) none = tt
under_left (some outer) (some v) = tt
under_left (some (defined a)) none = refl
under_left (some (defined a)) (some v) = refl

under-right : (u v : Option Lab) → ((a b : ℕ) → u ≡ some (defined a) → v ≡ some (defined b) → a ≡ b) → Under v (join join_lab u v)
under-right none v h = under-refl v
under-right (some u) none h = tt
under-right (some outer) (some v) h = under-refl (some v)
under-right (some (defined a)) (some outer) h = tt
under-right (some (defined a)) (some (defined b)) h = sym (h a b refl refl)

join-cases : (u v : Option Lab) (w : Lab) → join join_lab u v ≡ some w → (u ≡ some w) ⊎ (v ≡ some w)
join-cases none v w q = inr q
join-cases (some u) none w q = inl q
join-cases (some outer) (some v) w q = inr q
join-cases (some (defined a)) (some v) w q = inl q

-- an address of the labels of both is one of either
pub joined-low : (s t : Table Name Lab) → Sorted name_order s → Sorted name_order t → ((n : Name) (a : ℕ) → look name_order s n ≡ some (defined a) → a < 65536)
    → ((n : Name) (a : ℕ) → look name_order t n ≡ some (defined a) → a < 65536) → (n : Name) (a : ℕ) → look name_order (merge name_order join_lab s t) n ≡ some (defined a) → a < 65536
joined-low s t p q f g n a e = go (join-cases (look name_order s n) (look name_order t n) (defined a) (sym (look-merge name_order join_lab s t p q n) ∙ e))
  where
    go : (look name_order s n ≡ some (defined a)) ⊎ (look name_order t n ≡ some (defined a)) → a < 65536
    go (inl h) = f n a h
    go (inr h) = g n a h

-- a word that was settled is an address of the labels, or as it was
settled : (labs : Name → Option Lab) (r : Option Name) (c : Cell) (w : ℕ) → patch labs r c ≡ word w → ((n : Name) × (labs n ≡ some (defined w))) ⊎ (c ≡ word w)
settled labs none c w q = inr q
settled labs (some n) c w q = go (labs n) refl q
  where
    go : (v : Option Lab) → labs n ≡ v → settle v c ≡ word w → ((n : Name) × (labs n ≡ some (defined w))) ⊎ (c ≡ word w)
    go none p q = inr q
    go (some outer) p q = inr q
    go (some (defined a)) p q = let z : a ≡ w = cc in inl (n, p ∙ ap (λ (m : ℕ). some (defined m)) z)

-- what holds of both holds of each of the two
of-both : (P : Object → Type 0) (a b : Object) → P a → P b → (e : Object) → Memᴰ e (a ∷ b ∷ []) → P e
of-both P a b x y e (Memᴰ.head q) = rw q x
of-both P a b x y e (Memᴰ.tail m) = rw (Memᴰ.eq_of_singleton m) y

module _ (a b : Object) (g : Good a) (h : Good b) (s : shared a b ≡ false) (d : Differ a b → ⊥) where
  abbrev o : Object
  o = union a b

  abbrev ma : Memᴰ a (a ∷ b ∷ [])
  ma = Memᴰ.head refl

  abbrev mb : Memᴰ b (a ∷ b ∷ [])
  mb = Memᴰ.tail (Memᴰ.head refl)

  no-meet : Overlap a b → ⊥
  no-meet w = let z = overlap-shared a b w in never cc

  one_place : (m : Name) (x y : ℕ) → lab_of a m ≡ some (defined x) → lab_of b m ≡ some (defined y) → x ≡ y
  one_place m x y p q = go (ℕ_discrete x y)
    where
      go : Dec (x ≡ y) → x ≡ y
      go (yes e) = e
      go (no n) = absurd (d (m, x, y, p, q, n))

  -- what each table says

  lab : (m : Name) → lab_of o m ≡ join join_lab (lab_of a m) (lab_of b m)
  unfolding all_labels
  lab m = ap (λ (t : Table Name Lab). look name_order t m) (union-labels a b) ∙ look-merge name_order join_lab a.labels b.labels g.labels_up h.labels_up m

  rels : (x : ℕ) → look nat_order (all_relocs a b) x ≡ or_else (rel_at a x) (rel_at b x)
  unfolding all_relocs
  rels x = look-merge nat_order newer a.relocs b.relocs g.relocs_up h.relocs_up x ∙ join-newer (rel_at a x) (rel_at b x)

  rels-up : Sorted nat_order (all_relocs a b)
  unfolding all_relocs
  rels-up = sorted_merge nat_order newer a.relocs b.relocs h.relocs_up

  rel : (x : ℕ) → rel_at o x ≡ keep (lab_of o) (or_else (rel_at a x) (rel_at b x))
  unfolding union
  rel x =
      look-sieve nat_order (λ n. stay n (look name_order (all_labels a b) n)) (all_relocs a b) rels-up x
      ∙ (ap (bind (λ n. stay n (look name_order (all_labels a b) n))) (rels x) ∙ bind-keep (look name_order (all_labels a b)) (or_else (rel_at a x) (rel_at b x)))

  all-at : (x : ℕ) → look nat_order (cells (all_blocks a b)) x ≡ or_else (cell_at a x) (cell_at b x)
  unfolding all_blocks
  all-at x = (blocks-merged a b g h s).at x

  cell : (x : ℕ) → cell_at o x ≡ omap (patch (lab_of o) (or_else (rel_at a x) (rel_at b x))) (or_else (cell_at a x) (cell_at b x))
  unfolding union
  cell x =
      ap (λ (t : Table ℕ Cell). look nat_order t x) (cells-turned (written a b) (all_blocks a b))
      ∙ (look-map nat_order (written a b) (cells (all_blocks a b)) x
      ∙ (ap (omap (written a b x)) (all-at x)
      ∙ ap (λ (r : Option Name). omap (patch (look name_order (all_labels a b)) r) (or_else (cell_at a x) (cell_at b x))) (rels x)))

  head : (x : ℕ) → head_at o x ≡ or_else (head_at a x) (head_at b x)
  head x =
      ap (λ (t : Table ℕ ℕ). look nat_order t x) (heads-union a b)
      ∙ (look-merge nat_order newer (heads a.blocks) (heads b.blocks) g.heads_up h.heads_up x ∙ join-newer (head_at a x) (head_at b x))

  -- an address that one holds, the other neither holds nor relocates
  not-b : (x : ℕ) (c : Cell) → cell_at a x ≡ some c → rel_at b x ≡ none
  not-b x c q = is_none (rel_at b x) (λ m r. no-meet (x, c, word 0, q, h.reloc_zero x m r))

  not_a : (x : ℕ) (c : Cell) → cell_at b x ≡ some c → rel_at a x ≡ none
  not_a x c q = is_none (rel_at a x) (λ m r. no-meet (x, word 0, c, g.reloc_zero x m r, q))

  bare-a : (x : ℕ) (c : Cell) → cell_at b x ≡ some c → cell_at a x ≡ none
  bare-a x c q = is_none (cell_at a x) (λ e r. no-meet (x, e, c, r, q))

  cell-a : (x : ℕ) (c : Cell) → cell_at a x ≡ some c → cell_at o x ≡ some (patch (lab_of o) (rel_at a x) c)
  cell-a x c q =
      cell x
      ∙ (ap (λ (r : Option Name). omap (patch (lab_of o) r) (or_else (cell_at a x) (cell_at b x))) (or-none (rel_at a x) (rel_at b x) (not-b x c q))
      ∙ ap (λ (y : Option Cell). omap (patch (lab_of o) (rel_at a x)) (or_else y (cell_at b x))) q)

  cell-b : (x : ℕ) (c : Cell) → cell_at b x ≡ some c → cell_at o x ≡ some (patch (lab_of o) (rel_at b x) c)
  cell-b x c q =
      cell x
      ∙ (ap (λ (r : Option Name). omap (patch (lab_of o) r) (or_else (cell_at a x) (cell_at b x))) (none_or (rel_at a x) (rel_at b x) (not_a x c q))
      ∙ ap (omap (patch (lab_of o) (rel_at b x))) (none_or (cell_at a x) (cell_at b x) (bare-a x c q) ∙ q))

  head-b : (x k : ℕ) → head_at b x ≡ some k → head_at a x ≡ none
  head-b x k q =
      let v = start-held b.blocks h.filled x k q in
      is_none (head_at a x) (λ j r. let u = start-held a.blocks g.filled x j r in no-meet (x, u.0, v.0, u.1, v.1))

  pub union-gathers : Gathers (a ∷ b ∷ []) (union a b)
  union-gathers = record {
    head-up = of-both (λ e. (x k : ℕ) → head_at e x ≡ some k → head_at o x ≡ some k) a b
        (λ x k q. head x ∙ ap (λ (y : Option ℕ). or_else y (head_at b x)) q)
        (λ x k q. head x ∙ (none_or (head_at a x) (head_at b x) (head-b x k q) ∙ q));
    head_of = λ x k q. head_of x k (or_split (head_at a x) (head_at b x) k (sym (head x) ∙ q));
    lab-up = of-both (λ e. (m : Name) → Under (lab_of e m) (lab_of o m)) a b
        (λ m. rw (lab m) (under_left (lab_of a m) (lab_of b m)))
        (λ m. rw (lab m) (under-right (lab_of a m) (lab_of b m) (one_place m)));
    lab-of = λ m v q. lab-of m v (join-cases (lab_of a m) (lab_of b m) v (sym (lab m) ∙ q));
    cell-up = of-both (λ e. (x : ℕ) (c : Cell) → cell_at e x ≡ some c → cell_at o x ≡ some (patch (lab_of o) (rel_at e x) c)) a b cell-a cell-b;
    cell-of = λ x c q.
        let w = omap-some (patch (lab_of o) (or_else (rel_at a x) (rel_at b x))) (or_else (cell_at a x) (cell_at b x)) c (sym (cell x) ∙ q) in
        cell-of x w.0 (or_split (cell_at a x) (cell_at b x) w.0 w.1);
    rel-up = of-both (λ e. (x : ℕ) (c : Cell) → cell_at e x ≡ some c → rel_at o x ≡ keep (lab_of o) (rel_at e x)) a b
        (λ x c q. rel x ∙ ap (keep (lab_of o)) (or-none (rel_at a x) (rel_at b x) (not-b x c q)))
        (λ x c q. rel x ∙ ap (keep (lab_of o)) (none_or (rel_at a x) (rel_at b x) (not_a x c q)));
  }
    where
      head_of : (x k : ℕ) → (head_at a x ≡ some k) ⊎ (head_at b x ≡ some k) → (e : Object) × Memᴰ e (a ∷ b ∷ []) × (head_at e x ≡ some k)
      head_of x k (inl q) = (a, ma, q)
      head_of x k (inr q) = (b, mb, q)

      lab-of : (m : Name) (v : Lab) → (lab_of a m ≡ some v) ⊎ (lab_of b m ≡ some v) → (e : Object) × Memᴰ e (a ∷ b ∷ []) × (lab_of e m ≡ some v)
      lab-of m v (inl q) = (a, ma, q)
      lab-of m v (inr q) = (b, mb, q)

      cell-of : (x : ℕ) (c : Cell) → (cell_at a x ≡ some c) ⊎ (cell_at b x ≡ some c) → (e : Object) × Memᴰ e (a ∷ b ∷ []) × (c' : Cell) × (cell_at e x ≡ some c')
      cell-of x c (inl q) = (a, ma, c, q)
      cell-of x c (inr q) = (b, mb, c, q)

  -- a relocation that stays is one of the one object's or of the other's
  from_one : (x : ℕ) (m : Name) → rel_at o x ≡ some m → (e : Object) × Memᴰ e (a ∷ b ∷ []) × Good e × (rel_at e x ≡ some m) × ((c : ℕ) → lab_of o m ≡ some (defined c) → ⊥)
  from_one x m q =
      let w = keep_some (lab_of o) (or_else (rel_at a x) (rel_at b x)) m (sym (rel x) ∙ q) in
      go w.1 (or_split (rel_at a x) (rel_at b x) m w.0)
    where
      go : ((c : ℕ) → lab_of o m ≡ some (defined c) → ⊥) → (rel_at a x ≡ some m) ⊎ (rel_at b x ≡ some m)
          → (e : Object) × Memᴰ e (a ∷ b ∷ []) × Good e × (rel_at e x ≡ some m) × ((c : ℕ) → lab_of o m ≡ some (defined c) → ⊥)
      go k (inl p) = (a, ma, g, p, k)
      go k (inr p) = (b, mb, h, p, k)

  address-low : (m : Name) (x : ℕ) → lab_of o m ≡ some (defined x) → x < 65536
  address-low m x q =
      let w = union-gathers.lab-of m (defined x) q in
      of-both (λ e. lab_of e m ≡ some (defined x) → x < 65536) a b (g.labels_low m x) (h.labels_low m x) w.0 w.1 w.2

  word_low : (x w : ℕ) → cell_at o x ≡ some (word w) → w < 65536
  word_low x w q =
      let u = omap-some (patch (lab_of o) (or_else (rel_at a x) (rel_at b x))) (or_else (cell_at a x) (cell_at b x)) (word w) (sym (cell x) ∙ q) in
      go u.0 (or_split (cell_at a x) (cell_at b x) u.0 u.1) (settled (lab_of o) (or_else (rel_at a x) (rel_at b x)) u.0 w u.2)
    where
      go : (c : Cell) → (cell_at a x ≡ some c) ⊎ (cell_at b x ≡ some c) → ((n : Name) × (lab_of o n ≡ some (defined w))) ⊎ (c ≡ word w) → w < 65536
      go c p (inl n) = address-low n.0 w n.1
      go c (inl p) (inr e) = g.words_low x w (p ∙ ap (λ (y : Cell). some y) e)
      go c (inr p) (inr e) = h.words_low x w (p ∙ ap (λ (y : Cell). some y) e)

  blocks-up : Sorted nat_order (cells (all_blocks a b))
  unfolding all_blocks
  blocks-up = chain-cells 0 (all_blocks a b) (blocks-merged a b g h s).chain

  pub union-good : Held (counts_of (union a b)) → Good (union a b)
  unfolding all_blocks all_labels
  union-good few = record {
    heads_up = rw (heads-union a b) (sorted_merge nat_order newer (heads a.blocks) (heads b.blocks) h.heads_up);
    labels_up = rw (union-labels a b) (sorted_merge name_order join_lab a.labels b.labels h.labels_up);
    relocs_up = rw (union-relocs a b) (sorted-sieve nat_order (λ m. stay m (look name_order (all_labels a b) m)) (all_relocs a b) rels-up);
    filled = rw (union-blocks a b) (full-turned (written a b) (all_blocks a b) (chain-full 0 (all_blocks a b) (blocks-merged a b g h s).chain));
    named = λ m v q.
        let w = union-gathers.lab-of m v q in
        of-both (λ e. lab_of e m ≡ some v → good_name m ≡ true) a b (g.named m v) (h.named m v) w.0 w.1 w.2;
    cells_up = rw (union-blocks a b, cells-turned (written a b) (all_blocks a b)) (sorted-map nat_order (written a b) (cells (all_blocks a b)) blocks-up);
    low = λ x c q.
        let w = union-gathers.cell-of x c q in
        of-both (λ e. (y : Cell) → cell_at e x ≡ some y → x < word_room) a b (g.low x) (h.low x) w.0 w.1 w.2 w.3;
    few_blocks = few.blocks;
    few_labels = few.labels;
    few_relocs = few.relocs;
    reloc_zero = λ x m q.
        let w = from_one x m q in
        union-gathers.cell-up w.0 w.1 x (word 0) (w.2.reloc_zero x m w.3)
        ∙ (ap (λ (r : Option Name). some (patch (lab_of o) r (word 0))) w.3 ∙ ap (λ (y : Cell). some y) (settle-open (lab_of o m) (word 0) w.4));
    reloc_outer = λ x m q.
        let w = from_one x m q in
        outer-up (lab_of o m) (rw (w.2.reloc_outer x m w.3) at (union-gathers.lab-up w.0 w.1 m)) w.4;
    words_low = word_low;
    labels_low = address-low;
  }
