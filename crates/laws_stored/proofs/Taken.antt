-- A field that may follow extends what was read: the items read so far are those of the state, and of the object at the end. Assumes nothing.
use mathlib.Core.Path.{◌≡◌, refl, sym, ◌∙◌, ap}
use mathlib.Core.Bool.{Bool, true, false, ◌&&◌}
use mathlib.Core.List.{List, [], ◌∷◌, ◌++◌, append_assoc, append-nil}
use mathlib.Core.Option.{Option, none, some}
use Prim.Native.Nat.{ℕ, zero, suc, ◌+◌, ◌-◌, ◌≤◌, ◌<◌}
use native.Mathlib.Omega.{arith}
use lib.ListN.{length}
use lib.Dec.{eqb, leb, ltb}
use borrow.Author.Tests.{ltb-true, leb-true, eqb-true, lt-ltb, le-leb, eq-eqb}
use Rattle.rules.specs.Capacities.{block_room, label_room, reloc_room, word_room}
use Rattle.rules.specs.Tables.{look, nat_order, name_order, Tri, less, same, more, Before}
use Rattle.rules.specs.Objects.{Cell, unset, word, Lab, outer, defined, Name, Object, cells, good_name}
use Rattle.rules.specs.Stored.{Run, Item, fin, block, run, label, reloc, run_items, block_items, label_items, reloc_items, items_of, State, begin, held, size, free, fits, after, flatten, is_zero, is_outer, is_less, may, next, is_fin, judged}
use Rattle.rules.proofs.Bools.{never, and_left, and_right}
use Rattle.rules.proofs.Tables.{none-some, lt-ne}
use Rattle.laws_stored.proofs.Cut.{Canon, canon-more, fits-some, runs-flatten}
use Rattle.laws_stored.proofs.Accepted.{closing, accept}
use Rattle.laws_stored.proofs.Written.{runs-more, blocks_more, labels-more, relocs-more, flatten-more}

empty : {A : Type 0} (l : List A) → length l ≡ 0 → l ≡ []
empty [] e = refl
empty (a ∷ l) e = absurd (omega arith)

-- WHAT A FIELD THAT MAY FOLLOW HAS SHOWN

pub record MayBlock (s : State) (a n : ℕ) : Type 0 where
  pub closed : s.owed ≡ 0
  pub no-labels : s.labels ≡ []
  pub no-relocs : s.relocs ≡ []
  pub words : 0 < n
  pub above : s.floor ≤ a
  pub below : a + n ≤ word_room
  pub room : length s.blocks < block_room

pub record MayRun (s : State) (r : Run) : Type 0 where
  pub owed : size r ≤ s.owed
  pub follows : fits (after free s.runs) r ≡ true

pub record MayLabel (s : State) (n : Name) : Type 0 where
  pub closed : s.owed ≡ 0
  pub no-relocs : s.relocs ≡ []
  pub above : Before s.last n
  pub named : good_name n ≡ true
  pub room : length s.labels < label_room

pub record MayReloc (s : State) (a : ℕ) (n : Name) : Type 0 where
  pub closed : s.owed ≡ 0
  pub above : s.least ≤ a
  pub room : length s.relocs < reloc_room
  pub zero : look nat_order (cells s.blocks) a ≡ some (word 0)
  pub outside : look name_order s.labels n ≡ some outer

-- the tests say so, both ways

pub is-less : {a b : Name} (t : Tri Before a b) → is_less t ≡ true → Before a b
is-less (less h) e = h
is-less (same h) e = never cc
is-less (more h) e = never cc

zero_is : (c : Option Cell) → is_zero c ≡ true → c ≡ some (word 0)
zero_is none e = never cc
zero_is (some unset) e = never cc
zero_is (some (word w)) e = ap (λ (x : ℕ). some (word x)) (eqb-true w 0 e)

outer-is : (v : Option Lab) → is_outer v ≡ true → v ≡ some outer
outer-is none e = never cc
outer-is (some outer) e = refl
outer-is (some (defined a)) e = never cc

pub may-fin : (s : State) → may s fin ≡ true → s.owed ≡ 0
unfolding may
may-fin s m = eqb-true s.owed 0 m

pub may-block : (s : State) (a n : ℕ) → may s (block a n) ≡ true → MayBlock s a n
unfolding may
may-block s a n m =
    let m1 = and_right (eqb s.owed 0) _ m in
    let m2 = and_right (eqb (length s.labels) 0) _ m1 in
    let m3 = and_right (eqb (length s.relocs) 0) _ m2 in
    let m4 = and_right (ltb 0 n) _ m3 in
    let m5 = and_right (leb s.floor a) _ m4 in
    let m6 = and_right (leb (a + n) word_room) _ m5 in
    record {
      closed = eqb-true s.owed 0 (and_left _ _ m);
      no-labels = empty s.labels (eqb-true (length s.labels) 0 (and_left _ _ m1));
      no-relocs = empty s.relocs (eqb-true (length s.relocs) 0 (and_left _ _ m2));
      words = ltb-true 0 n (and_left _ _ m3);
      above = leb-true s.floor a (and_left _ _ m4);
      below = leb-true (a + n) word_room (and_left _ _ m5);
      room = ltb-true (length s.blocks) block_room m6;
    }

pub may-run : (s : State) (r : Run) → may s (run r) ≡ true → MayRun s r
unfolding may
may-run s r m = record { owed = leb-true (size r) s.owed (and_left _ _ m); follows = and_right (leb (size r) s.owed) _ m }

pub may-label : (s : State) (n : Name) (v : Lab) → may s (label n v) ≡ true → MayLabel s n
unfolding may
may-label s n v m =
    let m1 = and_right (eqb s.owed 0) _ m in
    let m2 = and_right (eqb (length s.relocs) 0) _ m1 in
    let m3 = and_right (is_less (name_order.tri s.last n)) _ m2 in
    let m4 = and_right (good_name n) _ m3 in
    record {
      closed = eqb-true s.owed 0 (and_left _ _ m);
      no-relocs = empty s.relocs (eqb-true (length s.relocs) 0 (and_left _ _ m1));
      above = is-less (name_order.tri s.last n) (and_left _ _ m2);
      named = and_left _ _ m3;
      room = ltb-true (length s.labels) label_room m4;
    }

pub may-reloc : (s : State) (a : ℕ) (n : Name) → may s (reloc a n) ≡ true → MayReloc s a n
unfolding may
may-reloc s a n m =
    let m1 = and_right (eqb s.owed 0) _ m in
    let m2 = and_right (leb s.least a) _ m1 in
    let m3 = and_right (ltb (length s.relocs) reloc_room) _ m2 in
    record {
      closed = eqb-true s.owed 0 (and_left _ _ m);
      above = leb-true s.least a (and_left _ _ m1);
      room = ltb-true (length s.relocs) reloc_room (and_left _ _ m2);
      zero = zero_is (look nat_order (cells s.blocks) a) (and_left _ _ m3);
      outside = outer-is (look name_order s.labels n) (and_right (is_zero (look nat_order (cells s.blocks) a)) _ m3);
    }

and_both : {a b : Bool} → a ≡ true → b ≡ true → (a && b) ≡ true
and_both p q = rw (p, q) refl

pub less-is : (a b : Name) → Before a b → is_less (name_order.tri a b) ≡ true
less-is a b h = go (name_order.tri a b)
  where
    go : (t : Tri Before a b) → is_less t ≡ true
    go (less k) = refl
    go (same e) = absurd (lt-ne name_order a b h e)
    go (more k) = absurd (name_order.irr a (name_order.trans a b a h k))

pub fin-may : (s : State) → s.owed ≡ 0 → may s fin ≡ true
unfolding may
fin-may s e = eq-eqb s.owed 0 e

pub block-may : (s : State) (a n : ℕ) → MayBlock s a n → may s (block a n) ≡ true
unfolding may
block-may s a n m =
    and_both (eq-eqb s.owed 0 m.closed)
    (and_both (eq-eqb (length s.labels) 0 (ap length m.no-labels))
    (and_both (eq-eqb (length s.relocs) 0 (ap length m.no-relocs))
    (and_both (lt-ltb 0 n m.words)
    (and_both (le-leb s.floor a m.above) (and_both (le-leb (a + n) word_room m.below) (lt-ltb (length s.blocks) block_room m.room))))))

pub run-may : (s : State) (r : Run) → MayRun s r → may s (run r) ≡ true
unfolding may
run-may s r m = and_both (le-leb (size r) s.owed m.owed) m.follows

pub label-may : (s : State) (n : Name) (v : Lab) → MayLabel s n → may s (label n v) ≡ true
unfolding may
label-may s n v m =
    and_both (eq-eqb s.owed 0 m.closed)
    (and_both (eq-eqb (length s.relocs) 0 (ap length m.no-relocs))
    (and_both (less-is s.last n m.above) (and_both m.named (lt-ltb (length s.labels) label_room m.room))))

pub reloc-may : (s : State) (a : ℕ) (n : Name) → MayReloc s a n → may s (reloc a n) ≡ true
unfolding may
reloc-may s a n m =
    and_both (eq-eqb s.owed 0 m.closed)
    (and_both (le-leb s.least a m.above) (and_both (lt-ltb (length s.relocs) reloc_room m.room) (and_both (ap is_zero m.zero) (ap is_outer m.outside))))

-- WHAT IS READ SO FAR

abbrev opened : ℕ → ℕ → ℕ → List Run → List Item
opened zero a n rs = []
opened (suc k) a n rs = block a n ∷ run_items rs

abbrev pub so_far : State → List Item
so_far s = block_items s.blocks ++ (opened s.owed s.start s.total s.runs ++ (label_items s.labels ++ reloc_items s.relocs))

-- the runs of the open block may stand, and lack the words owed; labels and relocations come after blocks
pub record Along (s : State) : Type 0 where
  pub canon : Canon free s.runs
  pub sum : 0 < s.owed → length (flatten s.runs) + s.owed ≡ s.total
  pub no-labels : 0 < s.owed → s.labels ≡ []
  pub no-relocs : 0 < s.owed → s.relocs ≡ []

pub along-begin : Along begin
along-begin = record { canon = tt; sum = λ h. absurd (omega arith); no-labels = λ h. refl; no-relocs = λ h. refl }

pub record Step (s : State) (i : Item) : Type 0 where
  pub along : Along (next s i)
  pub same : so_far (next s i) ≡ so_far s ++ (i ∷ [])

step_block : (s : State) (a n : ℕ) → Along s → MayBlock s a n → Step s (block a n)
unfolding next
step_block s a zero v m = absurd (omega (arith, m.words))
step_block s a (suc n) v m = record {
  along = record { canon = tt; sum = λ h. omega arith; no-labels = λ h. m.no-labels; no-relocs = λ h. m.no-relocs };
  same = rw (m.closed, m.no-labels, m.no-relocs) (simp append-nil);
}

step_label : (s : State) (n : Name) (u : Lab) → Along s → MayLabel s n → Step s (label n u)
unfolding next
step_label s n u v m =
    let o = m.closed in
    record {
      along = record { canon = v.canon; sum = v.sum; no-labels = λ h. absurd (omega arith); no-relocs = λ h. m.no-relocs };
      same = rw (o, m.no-relocs, labels-more s.labels n u) (simp (append-nil, append_assoc));
    }

step-reloc : (s : State) (a : ℕ) (n : Name) → Along s → MayReloc s a n → Step s (reloc a n)
unfolding next
step-reloc s a n v m =
    let o = m.closed in
    record {
      along = record { canon = v.canon; sum = v.sum; no-labels = v.no-labels; no-relocs = λ h. absurd (omega arith) };
      same = rw (o, relocs-more s.relocs a n) (simp append_assoc);
    }

shut-tail : (x r : List Item) (h i : Item) → (x ++ (h ∷ (r ++ (i ∷ [])))) ++ [] ≡ (x ++ ((h ∷ r) ++ [])) ++ (i ∷ [])
shut-tail x r h i = simp (append-nil, append_assoc)

open-tail : (x r : List Item) (h i : Item) → x ++ ((h ∷ (r ++ (i ∷ []))) ++ []) ≡ (x ++ ((h ∷ r) ++ [])) ++ (i ∷ [])
open-tail x r h i = simp (append-nil, append_assoc)

step_run : (s : State) (r : Run) → Along s → MayRun s r → Step s (run r)
unfolding next
step_run s r v m = go (s.owed - size r) refl s.owed refl
  where
    p : 0 < size r
    p = fits-some (after free s.runs) r m.follows

    c : Canon free (s.runs ++ (r ∷ []))
    c = canon-more free s.runs r v.canon m.follows

    l : size r ≤ s.owed
    l = m.owed

    go : (k : ℕ) → s.owed - size r ≡ k → (w : ℕ) → s.owed ≡ w → Step s (run r)
    go k e zero q = absurd (omega (arith, p, l))
    go zero e (suc w) q =
        let t : length (flatten (s.runs ++ (r ∷ []))) ≡ s.total = omega (arith, l, flatten-more s.runs r, v.sum (omega arith)) in
        record {
          along = rw e (record { canon = tt; sum = λ h. absurd (omega arith); no-labels = λ h. absurd (omega arith); no-relocs = λ h. absurd (omega arith) });
          same = rw (
            e,
            q,
            blocks_more s.blocks (s.start, flatten (s.runs ++ (r ∷ []))),
            runs-flatten (s.runs ++ (r ∷ [])) c,
            t,
            v.no-labels (omega arith),
            v.no-relocs (omega arith),
            runs-more s.runs r,
          ) (shut-tail (block_items s.blocks) (run_items s.runs) (block s.start s.total) (run r));
        }
    go (suc k) e (suc w) q = record {
      along = rw e (record {
        canon = c;
        sum = λ h. omega (arith, l, flatten-more s.runs r, v.sum (omega arith));
        no-labels = λ h. v.no-labels (omega arith);
        no-relocs = λ h. v.no-relocs (omega arith);
      });
      same = rw (e, q, v.no-labels (omega arith), v.no-relocs (omega arith), runs-more s.runs r) (open-tail (block_items s.blocks) (run_items s.runs) (block s.start s.total) (run r));
    }

-- a field that may follow extends what was read by its item
pub step : (s : State) (i : Item) → Along s → is_fin i ≡ false → may s i ≡ true → Step s i
step s fin v e m = never cc
step s (block a n) v e m = step_block s a n v (may-block s a n m)
step s (run r) v e m = step_run s r v (may-run s r m)
step s (label n u) v e m = step_label s n u v (may-label s n u m)
step s (reloc a n) v e m = step-reloc s a n v (may-reloc s a n m)

-- x00 ends the items of the object
closed : (s : State) → s.owed ≡ 0 → so_far s ++ (fin ∷ []) ≡ items_of (held s)
closed s o = rw o (simp append_assoc)

at-fin : (s : State) (o : Object) (i : Item) (is : List Item) → may s i ≡ true → is_fin i ≡ true → closing s is ≡ some o → so_far s ++ (i ∷ is) ≡ items_of o
at-fin s o fin [] m f c = let z : o ≡ held s = cc in rw z (closed s (may-fin s m))
at-fin s o fin (j ∷ js) m f c = absurd (none-some c)
at-fin s o (block a n) is m f c = never cc
at-fin s o (run r) is m f c = never cc
at-fin s o (label n u) is m f c = never cc
at-fin s o (reloc a n) is m f c = never cc

-- items accepted are those of the object
pub accept-items : (s : State) (is : List Item) (o : Object) → Along s → accept s is ≡ some o → so_far s ++ is ≡ items_of o
unfolding accept
accept-items s [] o v e = absurd (none-some e)
accept-items s (i ∷ is) o v e = go (may s i) refl (is_fin i) refl e (λ w q. accept-items (next s i) is o w q)
  where
    go : (m : Bool) → may s i ≡ m → (f : Bool) → is_fin i ≡ f → judged m f none (closing s is) (accept (next s i) is) ≡ some o
        → (Along (next s i) → accept (next s i) is ≡ some o → so_far (next s i) ++ is ≡ items_of o) → so_far s ++ (i ∷ is) ≡ items_of o
    go false m f q a h = absurd (none-some a)
    go true m true q a h = at-fin s o i is m q a
    go true m false q a h =
        let t = step s i v q m in
        sym (append_assoc (so_far s) (i ∷ []) is) ∙ (ap (λ (l : List Item). l ++ is) (sym t.same) ∙ h t.along a)
