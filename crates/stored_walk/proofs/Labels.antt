-- Labels: a name that may follow the last one, and the field of a label. Assumes nothing.
use mathlib.Core.Path.{◌≡◌, refl, sym, ◌∙◌, ap}
use mathlib.Core.Bool.{Bool, true, false, ◌&&◌, and-true, and-false}
use mathlib.Core.List.{List, [], ◌∷◌, ◌++◌}
use Prim.Native.Nat.{ℕ, ◌+◌, ◌-◌, ◌*◌, ◌≤◌, ◌<◌}
use native.Mathlib.Omega.{arith}
use lib.ListN.{length, get_or, set, length-set, length-append}
use lib.Dec.{eqb, leb, ltb}
use borrow.Author.Tests.{ltb-true, leb-true}
use Rattle.rules.specs.Tables.{Table, Tri, less, same, more, Before, name_order}
use Rattle.rules.specs.Objects.{Lab, outer, defined, Name, good_name, label_token}
use Rattle.rules.specs.Buffers.{name_bytes}
use Rattle.rules.specs.Stored.{label, State, is_less, may, next}
use Rattle.rules.proofs.Bools.{and_right}
use Rattle.rules.proofs.Tables.{lt-ne}
use Rattle.laws_stored.specs.Offsets.{number_at, part_at}
use Rattle.laws_stored.proofs.Accepted.{Finds}
use Rattle.laws_stored.proofs.Contents.{length_part}
use Rattle.laws_stored.proofs.Taken.{may-label, less-is}
use Rattle.laws_stored.proofs.Kept.{NamesTo}
use Rattle.laws_stored.proofs.Checking.{checks-more}
use Rattle.base_text.specs.Names.{ordered}
use Rattle.std.specs.declared.cmp.Ordering.{Ordering}
use Rattle.std.specs.declared.cmp.Ordering.TheVariants.{Less, Equal, Greater}
use Rattle.object.proofs.Order.{is-less, is_same, is_greater}
use Rattle.stored_read.proofs.Found.{Stands}
use Rattle.stored_seek.specs.Seeking.{LabelAt, Listed}
use Rattle.stored_seek.proofs.Cursors.{noted_more}
use Rattle.stored_walk.specs.declared.Walk.{Walk}
use Rattle.stored_walk.specs.declared.Walked.TheVariants.{On, Broken}
use Rattle.stored_walk.specs.Walking.{Tells, Going, Steps, Moves}
use Rattle.stored_walk.specs.Behind.{behind_label, label_fits, name_fits, NamedAt}
use Rattle.stored_walk.proofs.Standing.{stands-defined, stands-defined-not, stands-outer}
use Rattle.stored_walk.proofs.Blocks.{breaks, silent, cursor-fresh}

-- NAMES RISE

pub fits-less : (l n : Name) → Before l n → name_fits l n ≡ good_name n
unfolding name_fits
fits-less l n h = rw (less-is l n h, name_fits) refl

fits_not : (l n : Name) → (Before l n → ⊥) → name_fits l n ≡ false
unfolding name_fits
fits_not l n h = go (name_order.tri l n)
  where
    go : (t : Tri Before l n) → (is_less t && good_name n) ≡ false
    go (less k) = absurd (h k)
    go (same e) = refl
    go (more k) = refl

-- every good name may be the first, since none is empty
first_fits : (n : Name) → name_fits [] n ≡ good_name n
unfolding good_name label_token
first_fits [] = fits_not [] [] (name_order.irr [])
first_fits (c ∷ n) = fits-less [] (c ∷ n) tt

-- the last name is that of the last row
last_row : (l z : Name) (e : Name × Lab) (t : Table Name Lab) → NamesTo l (e ∷ t) z → (get_or (e ∷ t) (length t) ([], outer)).0 ≡ z
last_row l z e [] h = h.2
last_row l z e (d ∷ t) h = last_row e.0 z d t h.2

last_name : (l z : Name) (t : Table Name Lab) (n : ℕ) → NamesTo l t z → n ≡ length t → (n ≡ 0 → ⊥) → (get_or t (n - 1) ([], outer)).0 ≡ z
last_name l z [] n h e p = absurd (p e)
last_name l z (d ∷ t) n h e p = let k : n - 1 ≡ length t = omega arith in rw k (last_row l z d t h)

no_name : (l z : Name) (t : Table Name Lab) → NamesTo l t z → length t ≡ 0 → z ≡ l
no_name l z [] h e = sym h
no_name l z (d ∷ t) h e = absurd (omega arith)

module _ (b places : List ℕ) (n : ℕ) (name : Name) where
  pub first-name : (r : Bool) → n ≡ 0 → r ≡ good_name name → (s : State) (end : ℕ) → Listed b places n s end → r ≡ name_fits s.last name
  first-name r z g s end h =
      let l : s.last ≡ [] = no_name [] s.last s.labels h.checks.kept.names (sym h.count ∙ z) in
      rw l (g ∙ sym (first_fits name))

  -- m is the last label's name, o its order with the name
  module _ (z : n ≡ 0 → ⊥) (m : Name) (f : (e : Name × Lab) → LabelAt b (get_or places (n - 1) 0) e → m ≡ e.0) (o : Ordering) (q : o ≡ ordered m name) (s : State) (end : ℕ) (h : Listed b places n s end) where
    last-is : m ≡ s.last
    last-is = f (get_or s.labels (n - 1) ([], outer)) (h.noted.rows (n - 1) (omega (arith, z, h.count))) ∙ last_name [] s.last s.labels n h.checks.kept.names h.count z

    pub name-above : (r : Bool) → o ≡ Less → r ≡ good_name name → r ≡ name_fits s.last name
    name-above r p g = rw (← last-is) (g ∙ sym (fits-less m name (is-less m name q p)))

    name-again : o ≡ Equal → false ≡ name_fits s.last name
    name-again p = rw (← last-is) (sym (fits_not m name (λ k. lt-ne name_order m name k (is_same m name q p))))

    name_below : o ≡ Greater → false ≡ name_fits s.last name
    name_below p = rw (← last-is) (sym (fits_not m name (λ k. name_order.irr m (name_order.trans m name m k (is_greater m name q p)))))

    pub name-not : (o ≡ Less → ⊥) → false ≡ name_fits s.last name
    name-not n = go o refl
      where
        go : (x : Ordering) → o ≡ x → false ≡ name_fits s.last name
        go Less e = absurd (n e)
        go Equal e = name-again e
        go Greater e = name_below e

-- THE FIELD OF A LABEL

regroup : (x y r l g : Bool) → (x && y && r && (l && g)) ≡ (x && (y && (l && (g && r))))
regroup true true true l g = rw (and-true g) refl
regroup true true false true g = rw (and-false g) refl
regroup true true false false g = refl
regroup true false r l g = refl
regroup false y r l g = refl

names_more : (t : Table Name Lab) (n : Name) (v : Lab) → length (name_bytes (t ++ ((n, v) ∷ []))) ≡ length (name_bytes t) + length n
names_more [] n v = omega (arith, length-append n [])
names_more (e ∷ t) n v = omega (arith, names_more t n v, length-append e.0 (name_bytes t), length-append e.0 (name_bytes (t ++ ((n, v) ∷ []))))

good-short : (n : Name) → good_name n ≡ true → length n ≤ 64
unfolding good_name
good-short n g = leb-true (length n) 64 (and_right (label_token n) (leb (length n) 64) g)

pub names-short : (l z : Name) (t : Table Name Lab) → NamesTo l t z → length (name_bytes t) ≤ length t * 64
names-short l z [] h = omega arith
names-short l z (e ∷ t) h = omega (arith, good-short e.0 h.1, names-short e.0 z t h.2, length-append e.0 (name_bytes t))

pub listed : {b places : List ℕ} {w : Walk} {s : State} → Tells b places w s → Listed b places w.labels s w.at
listed t = record { checks = t.checks; count = t.labels; noted = t.noted }

-- before the first label there is no name
pub first-last : {b places : List ℕ} {w : Walk} {s : State} → Tells b places w s → w.labels ≡ 0 → s.last ≡ []
first-last {s = s} t z = no_name [] s.last s.labels t.checks.kept.names (sym t.labels ∙ z)

module _ (b old : List ℕ) (w : Walk) (s : State) (t : Tells b old w s) where
  -- the tests are the rule's
  pub label-may : (n : Name) (v : Lab) → (label_fits w && name_fits s.last n) ≡ may s (label n v)
  unfolding label_fits name_fits may
  label-may n v =
      rw (t.owed, t.relocations, t.labels, label_fits)
      (regroup (eqb s.owed 0) (eqb (length s.relocs) 0) (ltb (length s.labels) 1024) (is_less (name_order.tri s.last n)) (good_name n))

  pub tells-label : (n : Name) (v : Lab) (e : ℕ) → Finds b w.at (label n v) e → may s (label n v) ≡ true → Tells b (set old w.labels w.at) (behind_label w e (length n)) (next s (label n v))
  unfolding next
  tells-label n v e f m =
      let k = may-label s n v m in
      let c = checks-more b s w.at (label n v) e t.checks f m refl in
      record {
        checks = c;
        blocks = t.blocks;
        words = t.words;
        floor = t.floor;
        owed = t.owed;
        previous = t.previous;
        shut = t.shut;
        labels = omega (arith, t.labels, length-append s.labels ((n, v) ∷ []));
        named = omega (arith, t.named, names_more s.labels n v);
        noted = rw t.labels (noted_more b old s.labels w.at n v e t.noted f k.room);
        relocations = t.relocations;
        least = t.least;
        fresh = t.fresh;
        cursor = cursor-fresh b old w s (next s (label n v)) e s.least t k.no-relocs c;
      }

-- y says whether the name, that from start up to end, may follow
module _ (b old : List ℕ) (w : Walk) (start end : ℕ) (p : NamedAt b w.at start end) (name : Name) (q : name ≡ part_at b start (end - start)) (y : Bool) (f : (s : State) (z : ℕ) → Listed b old w.labels s z → y ≡ name_fits s.last name) where
  name-size : length name ≡ end - start
  name-size = ap length q ∙ length_part b start (end - start) (omega (arith, p.order, p.within))

  found : Finds b w.at (label name p.lab) end
  found = rw q p.found

  pub label-room : Going b old w → y ≡ true → w.named + (end - start) ≤ 65600
  unfolding name_fits
  label-room g z =
      let s = g.state in
      let t = g.tells in
      let k = good-short name (and_right (is_less (name_order.tri s.last name)) (good_name name) (sym (f s w.at (listed t)) ∙ z)) in
      omega (arith, k, name-size, t.named, names-short [] s.last s.labels t.checks.kept.names, t.checks.kept.few_labels)

  pub label-taken : label_fits w ≡ true → y ≡ true → (r : Walk) → r ≡ behind_label w end (end - start) → Moves b old (set old w.labels w.at) w (On r)
  unfolding Steps
  label-taken x z r h = record {
    size = simp length-set;
    steps = λ s t. let m : may s (label name p.lab) ≡ true = sym (label-may b old w s t name p.lab) ∙ rw (x, ← f s w.at (listed t), z) refl in
        rw h (record {
          item = label name p.lab;
          found = found;
          allowed = m;
          more = refl;
          row = tt;
          tells = rw (← name-size) (tells-label b old w s t name p.lab end found m);
        });
  }

  pub label-refused : label_fits w ≡ true → y ≡ false → Moves b old old w (Broken w.at)
  label-refused x z = record {
    size = refl;
    steps = λ s t. breaks b old old w s t (label name p.lab) end found (sym (label-may b old w s t name p.lab) ∙ rw (x, ← f s w.at (listed t), z) refl);
  }

pub label-closed : (b old : List ℕ) (w : Walk) (start end : ℕ) → NamedAt b w.at start end → label_fits w ≡ false → Moves b old old w (Broken w.at)
label-closed b old w start end p x = record {
  size = refl;
  steps = λ s t. breaks b old old w s t (label (part_at b start (end - start)) p.lab) end p.found (sym (label-may b old w s t (part_at b start (end - start)) p.lab) ∙ rw x refl);
}

pub labels-less : (w : Walk) → label_fits w ≡ true → w.labels < 1024
unfolding label_fits
labels-less w x = ltb-true w.labels 1024 (and_right (eqb w.owed 0 && eqb w.relocations 0) (ltb w.labels 1024) x)

pub label-index : (b old : List ℕ) (w : Walk) → Going b old w → label_fits w ≡ true → w.labels < length old
label-index b old w g x = omega (arith, labels-less w x, g.tells.noted.room)

-- x04, behind an address, and x05

pub named-defined : (b : List ℕ) (at start end : ℕ) → Stands b at 4 start end → 2 ≤ end - start → NamedAt b at (start + 2) end
named-defined b at start end f l = record { lab = defined (number_at b start); found = stands-defined b at start end f l; order = omega arith; within = f.within }

pub named-outer : (b : List ℕ) (at start end : ℕ) → Stands b at 5 start end → NamedAt b at start end
named-outer b at start end f = record { lab = outer; found = stands-outer b at start end f; order = f.ends; within = f.within }

pub defined-short : (b old : List ℕ) (w : Walk) (start end : ℕ) → Stands b w.at 4 start end → end - start < 2 → Moves b old old w (Broken w.at)
defined-short b old w start end f l = record { size = refl; steps = λ s t. silent b old old w s t (stands-defined-not b w.at start end f l) }
