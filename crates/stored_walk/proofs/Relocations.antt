-- The field of a relocation: its word is looked for in the runs, its name among the labels. Assumes nothing.
use Rattle.std.specs.declared.option.Option as O
use Rattle.std.specs.declared.option.Option.TheVariants.{Some, None}
use mathlib.Core.Path.{◌≡◌, refl, sym, ◌∙◌, ap}
use mathlib.Core.Bool.{Bool, true, false, ◌&&◌, and_assoc}
use mathlib.Core.List.{List, [], ◌∷◌, ◌++◌}
use Prim.Native.Nat.{ℕ, suc, ◌+◌, ◌-◌, ◌≤◌, ◌<◌}
use native.Mathlib.Omega.{arith}
use lib.ListN.{length, length-append}
use lib.Dec.{eqb, leb, ltb}
use borrow.Author.Tests.{eqb-true, ltb-true, leb-true}
use Rattle.rules.specs.Tables.{Table, look, nat_order, name_order}
use Rattle.rules.specs.Objects.{Lab, Name, cells}
use Rattle.rules.specs.Buffers.{row_of}
use Rattle.rules.specs.Stored.{reloc, State, is_zero, is_outer, may, next}
use Rattle.rules.proofs.Bools.{never, and_left, and_right}
use Rattle.laws_stored.specs.Offsets.{number_at, part_at}
use Rattle.laws_stored.proofs.Accepted.{Finds}
use Rattle.laws_stored.proofs.Checking.{checks-more}
use Rattle.stored_read.proofs.Found.{Stands}
use Rattle.stored_seek.specs.declared.Sought.{Sought}
use Rattle.stored_seek.specs.Seeking.{Cursor, Seeker, Seeks, Listed, ListedIn, row_told}
use Rattle.stored_seek.proofs.Cursors.{cursor-reloc}
use Rattle.stored_walk.specs.declared.Walk.{Walk}
use Rattle.stored_walk.specs.declared.Walked.TheVariants.{On, Broken}
use Rattle.stored_walk.specs.Walking.{Tells, Going, Steps, Moves}
use Rattle.stored_walk.specs.Behind.{behind_reloc, reloc_fits, RelocAt}
use Rattle.stored_walk.proofs.Standing.{stands-reloc, stands-reloc-not}
use Rattle.stored_walk.proofs.Blocks.{breaks, silent}
use Rattle.stored_walk.proofs.Labels.{listed}

-- what the row of a name says of it

row-outer : (ls : Table Name Lab) (n : Name) (k : ℕ) → Some k ≡ row_told ls n → is_outer (look name_order ls n) ≡ true
unfolding row_told
row-outer ls n k e = go (is_outer (look name_order ls n)) e
  where
    go : (x : Bool) → Some k ≡ elim x [ true ↦ Some (row_of ls n) | false ↦ None ] → x ≡ true
    go true h = refl
    go false h = never cc

row_is : (ls : Table Name Lab) (n : Name) (k : ℕ) → Some k ≡ row_told ls n → k ≡ row_of ls n
unfolding row_told
row_is ls n k e = go (is_outer (look name_order ls n)) e
  where
    go : (x : Bool) → ◌≡◌ {A = O.Option ℕ} (Some k) (elim x [ true ↦ Some (row_of ls n) | false ↦ None ]) → k ≡ row_of ls n
    go true h = cc
    go false h = never cc

row_other : (ls : Table Name Lab) (n : Name) → None ≡ row_told ls n → is_outer (look name_order ls n) ≡ false
unfolding row_told
row_other ls n e = go (is_outer (look name_order ls n)) e
  where
    go : (x : Bool) → ◌≡◌ {A = O.Option ℕ} None (elim x [ true ↦ Some (row_of ls n) | false ↦ None ]) → x ≡ false
    go true h = never cc
    go false h = refl

regroup : (x y z u v : Bool) → (x && y && z && (u && v)) ≡ (x && (y && (z && (u && v))))
regroup x y z u v = simp and_assoc

no-relocs : (t : Table ℕ Name) (e : ℕ × Name) → t ++ (e ∷ []) ≡ [] → ⊥
no-relocs t e h = omega (arith, ap length h, length-append t (e ∷ []))

module _ (b places : List ℕ) (w : Walk) (s : State) (t : Tells b places w s) where
  -- the tests are the rule's
  reloc-may : (a : ℕ) (n : Name) → (reloc_fits w a && (is_zero (look nat_order (cells s.blocks) a) && is_outer (look name_order s.labels n))) ≡ may s (reloc a n)
  unfolding reloc_fits may
  reloc-may a n =
      rw (t.owed, t.least, t.relocations, reloc_fits)
      (regroup (eqb s.owed 0) (leb s.least a) (ltb (length s.relocs) 1024) (is_zero (look nat_order (cells s.blocks) a)) (is_outer (look name_order s.labels n)))

  -- the search for the word may begin
  seeker : (a : ℕ) → reloc_fits w a ≡ true → Seeker b s w.at w.seen w.address s.least a
  unfolding reloc_fits
  seeker a x =
      let y = and_left (eqb w.owed 0 && leb w.least a) (ltb w.relocations 1024) x in
      record {
        checks = t.checks;
        closed = sym t.owed ∙ eqb-true w.owed 0 (and_left (eqb w.owed 0) (leb w.least a) y);
        cursor = t.cursor;
        above = omega (arith, t.least, leb-true w.least a (and_right (eqb w.owed 0) (leb w.least a) y));
      }

  tells-reloc : (a : ℕ) (n : Name) (e row seen address : ℕ) → Finds b w.at (reloc a n) e → may s (reloc a n) ≡ true → Cursor s seen address a
      → Tells b places (behind_reloc w e (a + 1) row seen address) (next s (reloc a n))
  unfolding next
  tells-reloc a n e row seen address f m u = record {
    checks = checks-more b s w.at (reloc a n) e t.checks f m refl;
    blocks = t.blocks;
    words = t.words;
    floor = t.floor;
    owed = t.owed;
    previous = t.previous;
    shut = t.shut;
    labels = t.labels;
    named = t.named;
    noted = t.noted;
    relocations = omega (arith, t.relocations, length-append s.relocs ((a, n) ∷ []));
    least = omega arith;
    fresh = λ h. absurd (no-relocs s.relocs (a, n) h);
    cursor = cursor-reloc s a n seen address a (suc a) t.checks.along m (omega arith) u;
  }

-- THE FIELD OF A RELOCATION. q is what the search for its word gives, name what stands from start up to end.

pub relocs-less : (w : Walk) (a : ℕ) → reloc_fits w a ≡ true → w.relocations < 1024
unfolding reloc_fits
relocs-less w a x = ltb-true w.relocations 1024 (and_right (eqb w.owed 0 && leb w.least a) (ltb w.relocations 1024) x)

pub reloc-listed : (b places : List ℕ) (w : Walk) → Going b places w → ListedIn b places w.labels
reloc-listed b places w g = record { state = g.state; end = w.at; listed = listed g.tells }

module _ (b places : List ℕ) (w : Walk) (a start end : ℕ) (p : RelocAt b w.at a start end) (x : reloc_fits w a ≡ true) (q : Sought) (f : (s : State) (least : ℕ) → Seeker b s w.at w.seen w.address least a → Seeks s a q) where
  sought : (s : State) → Tells b places w s → Seeks s a q
  sought s t = f s s.least (seeker b places w s t a x)

  pub word-refused : q.zero ≡ false → Moves b places places w (Broken w.at)
  word-refused z = record {
    size = refl;
    steps = λ s t. breaks b places places w s t (reloc a (part_at b start (end - start))) end p.found
        (sym (reloc-may b places w s t a (part_at b start (end - start))) ∙ rw (x, ← (sought s t).zero, z) refl);
  }

  module _ (z : q.zero ≡ true) (name : Name) (e : name ≡ part_at b start (end - start)) (k : O.Option ℕ) (h : (s : State) (y : ℕ) → Listed b places w.labels s y → k ≡ row_told s.labels name) where
    found : Finds b w.at (reloc a name) end
    found = rw e p.found

    pub reloc-taken : (row : ℕ) → k ≡ Some row → (r : Walk) → r ≡ behind_reloc w end (a + 1) row q.seen q.address → Moves b places places w (On r)
    unfolding Steps
    reloc-taken row i r g = record {
      size = refl;
      steps = λ s t. let o : Some row ≡ row_told s.labels name = sym i ∙ h s w.at (listed t) in
          let m : may s (reloc a name) ≡ true = sym (reloc-may b places w s t a name) ∙ rw (x, ← (sought s t).zero, z, row-outer s.labels name row o) refl in
          rw g (record {
            item = reloc a name;
            found = found;
            allowed = m;
            more = refl;
            row = row_is s.labels name row o;
            tells = tells-reloc b places w s t a name end row q.seen q.address found m ((sought s t).cursor z);
          });
    }

    pub name-refused : k ≡ None → Moves b places places w (Broken w.at)
    name-refused i = record {
      size = refl;
      steps = λ s t. breaks b places places w s t (reloc a name) end found
          (sym (reloc-may b places w s t a name) ∙ rw (x, ← (sought s t).zero, z, row_other s.labels name (sym i ∙ h s w.at (listed t))) refl);
    }

-- x06: an address and a name

pub reloc-at : (b : List ℕ) (at a start end : ℕ) → Stands b at 6 start end → 2 ≤ end - start → a ≡ number_at b start → a < 65536 → RelocAt b at a (start + 2) end
reloc-at b at a start end f l e h = record { low = h; found = rw e (stands-reloc b at start end f l) }

pub reloc-refused : (b places : List ℕ) (w : Walk) (a start end : ℕ) → Stands b w.at 6 start end → 2 ≤ end - start → a ≡ number_at b start → reloc_fits w a ≡ false → Moves b places places w (Broken w.at)
reloc-refused b places w a start end f l e x = record {
  size = refl;
  steps = λ s t. breaks b places places w s t (reloc a (part_at b (start + 2) (end - (start + 2)))) end (rw e (stands-reloc b w.at start end f l))
      (sym (reloc-may b places w s t a (part_at b (start + 2) (end - (start + 2)))) ∙ rw x refl);
}

pub reloc-short : (b places : List ℕ) (w : Walk) (start end : ℕ) → Stands b w.at 6 start end → end - start < 2 → Moves b places places w (Broken w.at)
reloc-short b places w start end f l = record { size = refl; steps = λ s t. silent b places places w s t (stands-reloc-not b w.at start end f l) }
