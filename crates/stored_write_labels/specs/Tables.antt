-- The bytes of labels and relocations. Assumes nothing.
use Rattle.std.specs.Prelude.{ℕ, ◌+◌, ◌*◌, ◌≤◌, ◌≡◌, true, false, List, length, eqb}
use Rattle.rules.specs.Objects.{Name, Lab}
use Rattle.rules.specs.Buffers.{view_labels, view_relocs}
use Rattle.rules.specs.Stored.{label, reloc, spell, label_items, reloc_items}
use Rattle.stored_fields.specs.Fields.{field_of}

-- the field of a label, of a relocation
abbrev pub label_field : Name × Lab → List ℕ
label_field e = field_of (label e.0 e.1)

abbrev pub reloc_field : ℕ × Name → List ℕ
reloc_field e = field_of (reloc e.0 e.1)

-- the fields of n labels, of n relocations
unfoldable pub label_bytes : ℕ → List ℕ → List ℕ → List ℕ
label_bytes n ls ns = spell (label_items (view_labels n ls ns))

unfoldable pub reloc_bytes : ℕ → List ℕ → List ℕ → List ℕ → List ℕ
reloc_bytes n rs ls ns = spell (reloc_items (view_relocs n rs ls ns))

-- how many bytes the field of a label has, by its flag and the length of its name
unfoldable pub label_size : ℕ → ℕ → ℕ
label_size f n = elim (eqb f 0) [ true ↦ 3 + 2 + n | false ↦ 3 + n ]

-- r is how many bytes a field with a name has
pub record FieldSized (r : ℕ) (l : List ℕ) : Type 0 where
  pub size : r ≡ length l
  pub small : r ≤ 69

-- r is how many bytes at most `count` such fields have
pub record FieldsSized (count r : ℕ) (l : List ℕ) : Type 0 where
  pub size : r ≡ length l
  pub small : r ≤ count * 69
