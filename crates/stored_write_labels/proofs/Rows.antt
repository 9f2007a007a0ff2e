-- The fields of label and relocation rows. Assumes nothing.
use Prim.Native.Nat.{ℕ, zero, suc, ◌+◌, ◌*◌, ◌≤◌, ◌<◌}
use mathlib.Core.Path.{◌≡◌, refl, ap}
use mathlib.Core.List.{List, [], ◌∷◌, ◌++◌, flat_map}
use lib.ListN.{length, get_or}
use Rattle.rules.specs.Tables.{Table}
use Rattle.rules.specs.Objects.{Name, Lab}
use Rattle.rules.specs.Buffers.{tab, name_row, lab_from, label_row, reloc_row, view_labels, view_relocs}
use Rattle.rules.specs.Stored.{pair, spell, label_items, reloc_items}
use Rattle.list_lines.specs.Appended.{Appended}
use Rattle.list_sections.proofs.Texts.{Rows, rows_none, row_fits, rows_all}
use Rattle.stored_fields.specs.Fields.{field_bytes, field_of}
use Rattle.stored_write_labels.specs.Tables.{label_field, reloc_field, label_bytes, reloc_bytes}

-- ALL FIELDS, BY ROW

labels-flat : (t : Table Name Lab) → spell (label_items t) ≡ flat_map label_field t
unfolding flat_map field_of
labels-flat [] = refl
labels-flat (e ∷ t) = ap (λ (l : List ℕ). label_field e ++ l) (labels-flat t)

relocs-flat : (t : Table ℕ Name) → spell (reloc_items t) ≡ flat_map reloc_field t
unfolding flat_map field_of
relocs-flat [] = refl
relocs-flat (e ∷ t) = ap (λ (l : List ℕ). reloc_field e ++ l) (relocs-flat t)

pub label-rows : (n : ℕ) (ls ns : List ℕ) → label_bytes n ls ns ≡ flat_map label_field (tab n (label_row ls ns))
unfolding label_bytes view_labels
label-rows n ls ns = labels-flat (tab n (label_row ls ns))

pub reloc-rows : (n : ℕ) (rs ls ns : List ℕ) → reloc_bytes n rs ls ns ≡ flat_map reloc_field (tab n (reloc_row rs ls ns))
unfolding reloc_bytes view_relocs
reloc-rows n rs ls ns = relocs-flat (tab n (reloc_row rs ls ns))

-- A LABEL

module _ (ls ns : List ℕ) (k : ℕ) where
  pub field-defined : get_or ls (k * 4 + 1) 0 ≡ 0 → label_field (label_row ls ns k) ≡ field_bytes 4 (pair (get_or ls (k * 4) 0) ++ name_row ls ns k)
  unfolding field_bytes field_of
  field-defined e = rw e refl

  pub field-outer : (get_or ls (k * 4 + 1) 0 ≡ 0 → ⊥) → label_field (label_row ls ns k) ≡ field_bytes 5 (name_row ls ns k)
  unfolding field_bytes field_of
  field-outer h = go (get_or ls (k * 4 + 1) 0) h
    where
      go : (f : ℕ) → (f ≡ 0 → ⊥) → label_field (name_row ls ns k, lab_from (get_or ls (k * 4) 0) f) ≡ field_bytes 5 (name_row ls ns k)
      go zero h = absurd (h refl)
      go (suc f) h = refl

  module _ (n : List ℕ) (q : n ≡ name_row ls ns k) where
    pub name-short : length (name_row ls ns k) ≤ 64 → length n ≤ 64
    name-short s = rw q s

    pub defined-fits : (a at : ℕ) (b : List ℕ) → get_or ls (k * 4 + 1) 0 ≡ 0 → a ≡ get_or ls (k * 4) 0 → at + length (label_field (label_row ls ns k)) ≤ length b → at + length (field_bytes 4 (pair a ++ n)) ≤ length b
    defined-fits a at b z p h = rw (q, p, ← field-defined z) h

    pub defined-done : (a at e : ℕ) (b c : List ℕ) → get_or ls (k * 4 + 1) 0 ≡ 0 → a ≡ get_or ls (k * 4) 0 → Appended b c at e (field_bytes 4 (pair a ++ n)) → Appended b c at e (label_field (label_row ls ns k))
    defined-done a at e b c z p d = rw (field-defined z) (rw (q, p) at d)

    pub outer-fits : (at : ℕ) (b : List ℕ) → (get_or ls (k * 4 + 1) 0 ≡ 0 → ⊥) → at + length (label_field (label_row ls ns k)) ≤ length b → at + length (field_bytes 5 n) ≤ length b
    outer-fits at b z h = rw (q, ← field-outer z) h

    pub outer-done : (at e : ℕ) (b c : List ℕ) → (get_or ls (k * 4 + 1) 0 ≡ 0 → ⊥) → Appended b c at e (field_bytes 5 n) → Appended b c at e (label_field (label_row ls ns k))
    outer-done at e b c z d = rw (field-outer z) (rw q at d)

-- A RELOCATION

pub field-reloc : (rs ls ns : List ℕ) (k : ℕ) → reloc_field (reloc_row rs ls ns k) ≡ field_bytes 6 (pair (get_or rs (k * 2) 0) ++ name_row ls ns (get_or rs (k * 2 + 1) 0))
unfolding field_bytes field_of
field-reloc rs ls ns k = refl

module _ (rs ls ns : List ℕ) (k j : ℕ) (n : List ℕ) (i : j ≡ get_or rs (k * 2 + 1) 0) (q : n ≡ name_row ls ns j) where
  pub reloc-short : length (name_row ls ns (get_or rs (k * 2 + 1) 0)) ≤ 64 → length n ≤ 64
  reloc-short s = rw (q, i) s

  pub reloc-fits : (a at : ℕ) (b : List ℕ) → a ≡ get_or rs (k * 2) 0 → at + length (reloc_field (reloc_row rs ls ns k)) ≤ length b → at + length (field_bytes 6 (pair a ++ n)) ≤ length b
  reloc-fits a at b p h = rw (q, i, p, ← field-reloc rs ls ns k) h

  pub reloc-done : (a at e : ℕ) (b c : List ℕ) → a ≡ get_or rs (k * 2) 0 → Appended b c at e (field_bytes 6 (pair a ++ n)) → Appended b c at e (reloc_field (reloc_row rs ls ns k))
  reloc-done a at e b c p d = rw (field-reloc rs ls ns k) (rw (q, i, p) at d)

-- FIELDS IN A LOOP: l is f of each of g 0, g 1, .. up to n

module _ {A : Type 0} (f : A → List ℕ) (g : ℕ → A) (n at : ℕ) (b₀ l : List ℕ) (z : l ≡ flat_map f (tab n g)) where
  pub fields-none : at + length l ≤ length b₀ → Rows f g n b₀ b₀ at at 0
  fields-none h = rows_none f g n at b₀ (rw z at h)

  pub field_fits : (b : List ℕ) (end k : ℕ) → Rows f g n b₀ b at end k → at + length l ≤ length b₀ → k < n → end + length (f (g k)) ≤ length b
  field_fits b end k p h m = row_fits f g n at b₀ b end k p (rw z at h) m

  pub fields-all : (b : List ℕ) (end k : ℕ) → Rows f g n b₀ b at end k → n ≤ k → Appended b₀ b at end l
  fields-all b end k p h = rw z (rows_all f g n at b₀ b end k p h)
