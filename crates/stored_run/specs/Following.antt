-- Labels that follow one another, from the first on. Assumes nothing.
use Rattle.std.specs.Prelude.{◌≡◌, true, false, List, ◌⊎◌, ℕ, ◌+◌, ◌-◌, ◌≤◌, length, get_or, eqb}
use Rattle.laws_stored.specs.Offsets.{part_at}
use Rattle.stored_walk.specs.declared.Walk.{Walk}
use Rattle.stored_walk.specs.Walking.{Going}
use Rattle.stored_walk.specs.Behind.{name_fits, NamedAt}

-- behind n labels whose names have m bytes
abbrev pub behind_labels : Walk → (at n m : ℕ) → Walk
behind_labels w at n m = record {
  at = at;
  blocks = w.blocks;
  words = w.words;
  floor = w.floor;
  owed = w.owed;
  previous = w.previous;
  labels = n;
  named = m;
  relocations = w.relocations;
  least = w.least;
  row = w.row;
  seen = w.seen;
  address = w.address;
}

-- where the name begins in the field of a label: behind the head, and behind an address in x04
unfoldable pub name_start : List ℕ → ℕ → ℕ
name_start b at = elim (eqb (get_or b at 0) 4) [ true ↦ at + 3 + 2 | false ↦ at + 3 ]

-- r is `at`, or the end of a name that may follow the one from `last` up to `at`
pub record EndsAbove (b : List ℕ) (last at start end r : ℕ) : Type 0 where
  pub ends : (r ≡ at → ⊥) → r ≡ end
  pub fits : (r ≡ at → ⊥) → name_fits (part_at b last (at - last)) (part_at b start (end - start)) ≡ true

-- r is `at`, or the end of the field of a label whose name may follow the one from `last` up to `at`
pub record LabelEnds (b : List ℕ) (last at r : ℕ) : Type 0 where
  pub tag : (r ≡ at → ⊥) → (get_or b at 0 ≡ 4) ⊎ (get_or b at 0 ≡ 5)
  pub named : (r ≡ at → ⊥) → NamedAt b at (name_start b at) r
  pub fits : (r ≡ at → ⊥) → name_fits (part_at b last (at - last)) (part_at b (name_start b at) (r - name_start b at)) ≡ true

-- some fields on, of which each may follow
pub record Runs (b old new : List ℕ) (w r : Walk) : Type 0 where
  pub size : length new ≡ length old
  pub going : Going b new r
  pub further : w.at ≤ r.at
