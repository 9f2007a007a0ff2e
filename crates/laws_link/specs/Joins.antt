-- What a list of objects makes together: when two of them clash, and what the one object is that they make otherwise. Assumes nothing.
use Rattle.std.specs.Prelude.{◌≡◌, ◌⊎◌, ℕ}
use Rattle.std.proofs.Math.Option.{none, some}
use mathlib.Core.List.{List, [], ◌∷◌, Memᴰ}
use Rattle.rules.specs.Objects.{Cell, word, Lab, outer, defined, Name, Object, head_at, cell_at, lab_of, rel_at}

-- CLASHES

-- two objects hold a common address
abbrev pub Overlap : Object → Object → Type 0
Overlap e f = (x : ℕ) × (c : Cell) × (d : Cell) × (cell_at e x ≡ some c) × (cell_at f x ≡ some d)

-- two objects define one name at two addresses
abbrev pub Differ : Object → Object → Type 0
Differ e f = (n : Name) × (a : ℕ) × (b : ℕ) × (lab_of e n ≡ some (defined a)) × (lab_of f n ≡ some (defined b)) × (a ≡ b → ⊥)

abbrev pub Clash : Object → Object → Type 0
Clash e f = Overlap e f ⊎ Differ e f

-- two entries of the list clash: one of them and one behind it, so that an object that stands there twice counts as two
abbrev pub TwoClash : List Object → Type 0
TwoClash [] = ⊥
TwoClash (e ∷ l) = ((f : Object) × Memᴰ f l × Clash e f) ⊎ TwoClash l

-- WHAT THE ENTRIES MAKE

-- some entry defines the name, at address a
abbrev pub Defines : List Object → Name → ℕ → Type 0
Defines l n a = (f : Object) × Memᴰ f l × (lab_of f n ≡ some (defined a))

-- no entry defines the name
abbrev pub Open : List Object → Name → Type 0
Open l n = (a : ℕ) → Defines l n a → ⊥

-- o is what the entries of l make together: its blocks, its labels, its words and what stays open, each both ways
pub record Joins (l : List Object) (o : Object) : Type 0 where
  -- The blocks, by start and length, are those of the entries;
  pub block_kept : (e : Object) → Memᴰ e l → (s n : ℕ) → head_at e s ≡ some n → head_at o s ≡ some n
  -- and no others.
  pub block_from : (s n : ℕ) → head_at o s ≡ some n → (e : Object) × Memᴰ e l × (head_at e s ≡ some n)
  -- A name that some entry defines is defined there;
  pub label_defined : (n : Name) (a : ℕ) → Defines l n a → lab_of o n ≡ some (defined a)
  -- one that some entry has as an external and none defines is an external;
  pub label_outer : (e : Object) → Memᴰ e l → (n : Name) → lab_of e n ≡ some outer → Open l n → lab_of o n ≡ some outer
  -- and there are no other labels.
  pub label_from : (n : Name) (v : Lab) → lab_of o n ≡ some v → (e : Object) × Memᴰ e l × (lab_of e n ≡ some v)
  -- Each relocation whose name some entry defines holds that address;
  pub reloc_written : (e : Object) → Memᴰ e l → (x : ℕ) (n : Name) (a : ℕ) → rel_at e x ≡ some n → Defines l n a → cell_at o x ≡ some (word a)
  -- every other word, set or unset, is as its entry had it (that of a relocation to a name that no entry defines too);
  pub word_kept : (e : Object) → Memᴰ e l → (x : ℕ) (c : Cell) → cell_at e x ≡ some c → ((n : Name) → rel_at e x ≡ some n → Open l n) → cell_at o x ≡ some c
  -- and there are no other words.
  pub word_from : (x : ℕ) (c : Cell) → cell_at o x ≡ some c → (e : Object) × Memᴰ e l × (d : Cell) × (cell_at e x ≡ some d)
  -- A relocation whose name some entry defines is gone;
  pub reloc_gone : (e : Object) → Memᴰ e l → (x : ℕ) (n : Name) (a : ℕ) → rel_at e x ≡ some n → Defines l n a → rel_at o x ≡ none
  -- one whose name no entry defines stays;
  pub reloc_kept : (e : Object) → Memᴰ e l → (x : ℕ) (n : Name) → rel_at e x ≡ some n → Open l n → rel_at o x ≡ some n
  -- and there are no others.
  pub reloc_from : (x : ℕ) (n : Name) → rel_at o x ≡ some n → (e : Object) × Memᴰ e l × (rel_at e x ≡ some n) × Open l n
