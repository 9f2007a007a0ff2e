-- The loop over labels: what it keeps, and each way through its body. Assumes nothing.
use mathlib.Core.Path.{◌≡◌, refl, sym, ◌∙◌, ap, subst}
use mathlib.Core.Bool.{Bool, true, ◌&&◌}
use mathlib.Core.List.{List, []}
use Prim.Native.Nat.{ℕ, ◌+◌, ◌-◌, ◌≤◌, ◌<◌}
use native.Mathlib.Omega.{arith}
use lib.ListN.{length, set, length-set}
use lib.Dec.{eqb}
use borrow.Author.Tests.{eq-eqb, eqb-true, lt-ltb}
use Rattle.rules.specs.Objects.{Name}
use Rattle.rules.specs.Stored.{label, State, may, next}
use Rattle.rules.proofs.Bools.{and_left, and_right}
use Rattle.laws_stored.specs.Offsets.{part_at}
use Rattle.laws_stored.proofs.Contents.{length_part}
use Rattle.stored_walk.specs.declared.Walk.{Walk}
use Rattle.stored_walk.specs.Walking.{Tells, Going, Onward}
use Rattle.stored_walk.specs.Behind.{label_fits, name_fits, NamedAt}
use Rattle.stored_walk.proofs.Labels.{label-may, tells-label, names-short, first-last}
use Rattle.stored_run.specs.Following.{behind_labels, name_start, LabelEnds}
use Rattle.stored_run.proofs.Names.{named-there, named-further}

-- ONE LABEL ON, behind n labels whose names have m bytes

fits-behind : (w : Walk) (at n m : ℕ) → w.owed ≡ 0 → w.relocations ≡ 0 → n < 1024 → label_fits (behind_labels w at n m) ≡ true
unfolding label_fits
fits-behind w at n m o r l = rw (label_fits, eq-eqb w.owed 0 o, eq-eqb w.relocations 0 r, lt-ltb n 1024 l) refl

abbrev name_in : List ℕ → ℕ → ℕ → Name
name_in b at end = part_at b (name_start b at) (end - name_start b at)

both : {x y : Bool} → x ≡ true → y ≡ true → (x && y) ≡ true
both e f = rw (e, f) refl

module _ (w : Walk) {b places : List ℕ} {last at n m end : ℕ} {s : State} (t : Tells b places (behind_labels w at n m) s) (q : s.last ≡ part_at b last (at - last)) (o : w.owed ≡ 0) (r : w.relocations ≡ 0) (l : n < 1024) (u : LabelEnds b last at end) (d : end ≡ at → ⊥) where
  pub named : NamedAt b at (name_start b at) end
  named = u.named d

  name-size : length (name_in b at end) ≡ end - name_start b at
  name-size = length_part b (name_start b at) (end - name_start b at) (omega (arith, named.order, named.within))

  allowed : may s (label (name_in b at end) named.lab) ≡ true
  allowed = sym (label-may b places (behind_labels w at n m) s t (name_in b at end) named.lab) ∙ both (fits-behind w at n m o r l) (ap (λ (x : Name). name_fits x (name_in b at end)) q ∙ u.fits d)

  told : Tells b (set places n at) (behind_labels w end (n + 1) (m + (end - name_start b at))) (next s (label (name_in b at end) named.lab))
  told = subst (λ (x : ℕ). Tells b (set places n at) (behind_labels w end (n + 1) (m + x)) (next s (label (name_in b at end) named.lab))) name-size (tells-label b places (behind_labels w at n m) s t (name_in b at end) named.lab end named.found allowed)

  pub one_on : Onward b (set places n at) (behind_labels w at n m) s (behind_labels w end (n + 1) (m + (end - name_start b at)))
  one_on = record { item = label (name_in b at end) named.lab; found = named.found; allowed = allowed; more = refl; row = tt; tells = told }

  pub next_last : (next s one_on.item).last ≡ name_in b at end
  unfolding next one_on
  next_last = refl

-- names are few and short
pub named-low : {b places : List ℕ} {w : Walk} {s : State} → Tells b places w s → w.named ≤ 65536
named-low {s = s} t = omega (arith, t.named, names-short [] s.last s.labels t.checks.kept.names, t.checks.kept.few_labels)

-- no field of a label was read, and one may follow
pub all-zero : {a b c : ℕ} → (eqb a 0 && eqb b 0 && eqb c 0) ≡ true → (a ≡ 0) × (b ≡ 0) × (c ≡ 0)
all-zero {a} {b} {c} e =
    let p = and_left (eqb a 0 && eqb b 0) (eqb c 0) e in
    (eqb-true a 0 (and_left (eqb a 0) (eqb b 0) p), eqb-true b 0 (and_right (eqb a 0) (eqb b 0) p), eqb-true c 0 (and_right (eqb a 0 && eqb b 0) (eqb c 0) e))

-- WHAT THE LOOP KEEPS: n labels are read, whose names have m bytes, the last from `last` up to `at`
pub record Running (b old places : List ℕ) (w : Walk) (last at n m : ℕ) : Type 0 where
  pub size : length places ≡ length old
  pub room : 1024 ≤ length places
  pub owed : w.owed ≡ 0
  pub relocs : w.relocations ≡ 0
  pub further : w.at ≤ at
  pub order : last ≤ at
  pub state : State
  pub tells : Tells b places (behind_labels w at n m) state
  pub name : state.last ≡ part_at b last (at - last)

part-empty : (b : List ℕ) (at : ℕ) → [] ≡ part_at b at (at - at)
unfolding part_at
part-empty b at = let z : at - at ≡ 0 = omega arith in rw z refl

-- before the first label
module _ {b places : List ℕ} {w : Walk} {s : State} (t : Tells b places w s) (z : (w.labels ≡ 0) × (w.owed ≡ 0) × (w.relocations ≡ 0)) where
  named_none : w.named ≡ 0
  named_none = omega (arith, t.named, t.labels, z.0, names-short [] s.last s.labels t.checks.kept.names)

  pub tells_none : Tells b places (behind_labels w w.at 0 0) s
  tells_none =
      subst (λ (k : ℕ). Tells b places (behind_labels w w.at 0 k) s) named_none
      (subst (λ (k : ℕ). Tells b places (behind_labels w w.at k w.named) s) z.0 t)

  pub name-none : s.last ≡ part_at b w.at (w.at - w.at)
  name-none = first-last t z.0 ∙ part-empty b w.at

pub running_none : {b places : List ℕ} {w : Walk} → Going b places w → (w.labels ≡ 0) × (w.owed ≡ 0) × (w.relocations ≡ 0) → Running b places places w w.at w.at 0 0
running_none g z = record {
  size = refl;
  room = g.tells.noted.room;
  owed = z.1;
  relocs = z.2;
  further = omega arith;
  order = omega arith;
  state = g.state;
  tells = tells_none g.tells z;
  name = name-none g.tells z;
}

module _ {b old places : List ℕ} {w : Walk} {last at n m : ℕ} (f : Running b old places w last at n m) where
  module _ {end : ℕ} (u : LabelEnds b last at end) (d : end ≡ at → ⊥) where
    pub running-there : at + 3 ≤ length b
    running-there = named-there (u.named d)

    module _ {start : ℕ} (h : start ≡ name_start b at) where
      pub running-low : n < 1024 → m + (end - start) ≤ 65536
      running-low l = rw h (named-low (one_on w f.tells f.name f.owed f.relocs l u d).tells)

      pub running_more : n < 1024 → Running b old (set places n at) w start end (n + 1) (m + (end - start))
      running_more l = rw h (record {
        size = simp length-set f.size;
        room = simp length-set f.room;
        owed = f.owed;
        relocs = f.relocs;
        further = omega (arith, f.further, named-further (u.named d));
        order = (u.named d).order;
        state = _;
        tells = (one_on w f.tells f.name f.owed f.relocs l u d).tells;
        name = next_last w f.tells f.name f.owed f.relocs l u d;
      })
