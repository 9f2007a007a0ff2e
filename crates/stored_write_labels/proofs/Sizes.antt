-- How many bytes fields with names have, and what the loops that add them up keep. Assumes nothing.
use Prim.Native.Nat.{ℕ, ◌+◌, ◌*◌, ◌≤◌, ◌<◌}
use mathlib.Core.Path.{◌≡◌, refl, sym, ◌∙◌, ap}
use mathlib.Core.List.{List, ◌++◌, flat_map}
use native.Mathlib.Omega.{arith}
use native.Mathlib.Decide.{ℕ_discrete}
use lib.ListN.{length, get_or, drop, length-append, length-take, length-drop}
use borrow.Author.Tests.{eq-eqb, ne_eqb}
use Rattle.rules.specs.Buffers.{tab, name_row, label_row, reloc_row, LabelRow, LabelsOk}
use Rattle.rules.specs.Stored.{pair}
use Rattle.list_lines.proofs.Appending.{rows_more}
use Rattle.list_sections.proofs.Sizes.{label-short}
use Rattle.stored_fields.proofs.Fields.{length-field}
use Rattle.stored_write_labels.specs.Tables.{label_field, reloc_field, label_size, FieldSized, FieldsSized}
use Rattle.stored_write_labels.proofs.Rows.{field-defined, field-outer, field-reloc}

-- ONE FIELD

pub size-defined : {f n m : ℕ} → m ≡ n → f ≡ 0 → 3 + 2 + m ≡ label_size f n
unfolding label_size
size-defined {f} h e = rw (label_size, eq-eqb f 0 e, h) refl

pub size-outer : {f n m : ℕ} → m ≡ n → (f ≡ 0 → ⊥) → 3 + m ≡ label_size f n
unfolding label_size
size-outer {f} h e = rw (label_size, ne_eqb f 0 e, h) refl

-- a name as long as its row says
module _ (ls ns : List ℕ) (k : ℕ) (v : LabelRow ls ns k) where
  pub name-length : length (name_row ls ns k) ≡ get_or ls (k * 4 + 3) 0
  name-length = omega (arith, length-take (get_or ls (k * 4 + 3) 0) (drop (get_or ls (k * 4 + 2) 0) ns), length-drop (get_or ls (k * 4 + 2) 0) ns, v.place)

  pub sized-label : {r : ℕ} → length (name_row ls ns k) ≤ 64 → r ≡ label_size (get_or ls (k * 4 + 1) 0) (get_or ls (k * 4 + 3) 0) → FieldSized r (label_field (label_row ls ns k))
  sized-label {r} s h = go (ℕ_discrete (get_or ls (k * 4 + 1) 0) 0)
    where
      go : Dec (get_or ls (k * 4 + 1) 0 ≡ 0) → FieldSized r (label_field (label_row ls ns k))
      go (yes z) =
          let e = ap length (field-defined ls ns k z) ∙ length-field 4 (pair (get_or ls (k * 4) 0) ++ name_row ls ns k) in
          record { size = omega (arith, e, h, size-defined {n = get_or ls (k * 4 + 3) 0} refl z, name-length); small = omega (arith, h, size-defined {n = get_or ls (k * 4 + 3) 0} refl z, name-length, s) }
      go (no z) =
          let e = ap length (field-outer ls ns k z) ∙ length-field 5 (name_row ls ns k) in
          record { size = omega (arith, e, h, size-outer {n = get_or ls (k * 4 + 3) 0} refl z, name-length); small = omega (arith, h, size-outer {n = get_or ls (k * 4 + 3) 0} refl z, name-length, s) }

-- of rows that are in order
module _ {n : ℕ} {ls ns : List ℕ} (v : LabelsOk n ls ns) {k : ℕ} (l : k < n) where
  pub name-low : get_or ls (k * 4 + 3) 0 ≤ 64
  name-low = omega (arith, name-length ls ns k (v.rows k l), label-short n ls ns v k l)

  pub sized_row : {r : ℕ} → r ≡ label_size (get_or ls (k * 4 + 1) 0) (get_or ls (k * 4 + 3) 0) → FieldSized r (label_field (label_row ls ns k))
  sized_row h = sized-label ls ns k (v.rows k l) (label-short n ls ns v k l) h

pub sized-reloc : (rs ls ns : List ℕ) (k j : ℕ) (n : List ℕ) → j ≡ get_or rs (k * 2 + 1) 0 → n ≡ name_row ls ns j → length (name_row ls ns (get_or rs (k * 2 + 1) 0)) ≤ 64 → FieldSized (3 + 2 + length n) (reloc_field (reloc_row rs ls ns k))
sized-reloc rs ls ns k j n i q s =
    let e = ap length (field-reloc rs ls ns k) ∙ length-field 6 (pair (get_or rs (k * 2) 0) ++ name_row ls ns (get_or rs (k * 2 + 1) 0)) in
    let p : length n ≡ length (name_row ls ns (get_or rs (k * 2 + 1) 0)) = ap length (q ∙ ap (name_row ls ns) i) in
    record { size = omega (arith, e); small = omega arith }

-- ADDED UP

pub record Added {A : Type 0} (f : A → List ℕ) (g : ℕ → A) (n k size : ℕ) : Type 0 where
  pub sum : size ≡ length (flat_map f (tab k g))
  pub small : size ≤ k * 69
  pub within : k ≤ n

module _ {A : Type 0} (f : A → List ℕ) (g : ℕ → A) (n : ℕ) where
  pub added_none : Added f g n 0 0
  unfolding flat_map
  added_none = record { sum = refl; small = omega arith; within = omega arith }

  pub added_more : (k size m : ℕ) → Added f g n k size → k < n → FieldSized m (f (g k)) → Added f g n (k + 1) (size + m)
  added_more k size m a l s = record {
    sum = rw (rows_more f g k) (sym (length-append (flat_map f (tab k g)) (f (g k)) ∙ (let p = a.sum in let q = s.size in omega arith)));
    small = omega (arith, a.small, s.small);
    within = omega arith;
  }

  pub added-all : (count k size : ℕ) (l : List ℕ) → l ≡ flat_map f (tab n g) → Added f g n k size → n ≤ k → n ≤ count → FieldsSized count size l
  added-all count k size l z a h c = let e : k ≡ n = omega (arith, a.within) in rw z (record { size = rw e at a.sum; small = omega (arith, a.small) })
