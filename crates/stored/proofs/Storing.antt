-- The parts of a stored object one behind another, and what the buffer holds then. Assumes nothing.
use Rattle.std.specs.declared.result.Result.TheVariants.{Ok, Err}
use Prim.Native.Nat.{ℕ, ◌+◌, ◌≤◌, ◌<◌}
use mathlib.Core.Path.{◌≡◌, refl, sym, ◌∙◌, ap}
use mathlib.Core.Bool.{true, false}
use mathlib.Core.List.{List, [], ◌∷◌, ◌++◌, append_assoc}
use native.Mathlib.Nat.{zero-add}
use native.Mathlib.Omega.{arith}
use borrow.Author.Tests.{le-leb, lt-leb}
use lib.Dec.{leb}
use lib.ListN.{length, length-append}
use Rattle.rules.specs.Objects.{Counts}
use Rattle.rules.specs.Buffers.{Buffers, Valid, view, zeros}
use Rattle.rules.specs.Stored.{fin, spell, block_items, label_items, reloc_items, stored, store}
use Rattle.rules.proofs.Rows.{lay-nil}
use Rattle.laws_stored.proofs.Framed.{spell-append}
use Rattle.list_lines.specs.Appended.{Appended}
use Rattle.list_lines.proofs.Appending.{appended-more, appended-laid}
use Rattle.stored_fields.specs.Fields.{field_of}
use Rattle.stored_fields.proofs.Fields.{length-fin}
use Rattle.stored_write_blocks.specs.Blocks.{blocks_bytes, BlocksSized}
use Rattle.stored_write_labels.specs.Tables.{label_bytes, reloc_bytes, FieldsSized}
use Rattle.object_answer.specs.Writes.{Whole}

module _ (c : Counts) (b : Buffers) where
  abbrev pub blocks_of : List ℕ
  blocks_of = blocks_bytes c.blocks c.words b.blocks b.words b.marks

  abbrev pub labels_of : List ℕ
  labels_of = label_bytes c.labels b.labels b.names

  abbrev pub relocs_of : List ℕ
  relocs_of = reloc_bytes c.relocs b.relocs b.labels b.names

  -- blocks, labels, relocations, the end
  four-parts : stored (view c b) ≡ ((blocks_of ++ labels_of) ++ relocs_of) ++ field_of fin
  unfolding stored blocks_bytes label_bytes reloc_bytes field_of
  four-parts =
      let o = view c b in
      let end = fin ∷ [] in
      let bs = block_items o.blocks in
      let ls = label_items o.labels in
      let rs = reloc_items o.relocs in
      spell-append bs (ls ++ (rs ++ end))
      ∙ (ap (λ (l : List ℕ). spell bs ++ l) (spell-append ls (rs ++ end) ∙ ap (λ (l : List ℕ). spell ls ++ l) (spell-append rs end))
      ∙ (sym (append_assoc (spell bs) (spell ls) (spell rs ++ spell end)) ∙ sym (append_assoc (spell bs ++ spell ls) (spell rs) (spell end))))

  whole_length : length (stored (view c b)) ≡ length blocks_of + length labels_of + length relocs_of + 3
  whole_length =
      let p = ap length four-parts in
      let q = length-append ((blocks_of ++ labels_of) ++ relocs_of) (field_of fin) in
      let r = length-append (blocks_of ++ labels_of) relocs_of in
      let s = length-append blocks_of labels_of in
      omega (arith, length-fin)

  pub stored-size : (x y z : ℕ) → Valid c b → BlocksSized c.blocks c.words b.blocks b.marks x → FieldsSized 1024 y labels_of → FieldsSized 1024 z relocs_of
      → x + y + z + 3 ≡ length (stored (view c b))
  stored-size x y z v p q r = omega (arith, whole_length, p.size b.words v.words.room_words, q.size, r.size)

  module _ (v : Valid c b) (size : ℕ) (s : size ≡ length (stored (view c b))) (out : List ℕ) where
    pub first_fits : size ≤ length out → 0 + length blocks_of ≤ length out
    first_fits h = omega (arith, whole_length)

    pub second_fits : (d : List ℕ) (m : ℕ) → size ≤ length out → Appended out d 0 m blocks_of → m + length labels_of ≤ length d
    second_fits d m h p = omega (arith, whole_length, p.stop, p.size)

    pub third-fits : (d e : List ℕ) (m n : ℕ) → size ≤ length out → Appended out d 0 m blocks_of → Appended d e m n labels_of → n + length relocs_of ≤ length e
    third-fits d e m n h p q = omega (arith, whole_length, p.stop, p.size, q.stop, q.size)

    pub end_fits : (d e f : List ℕ) (m n k : ℕ) → size ≤ length out → Appended out d 0 m blocks_of → Appended d e m n labels_of → Appended e f n k relocs_of → k + length (field_of fin) ≤ length f
    end_fits d e f m n k h p q r = omega (arith, whole_length, length-fin, p.stop, p.size, q.stop, q.size, r.stop, r.size)

    pub no_room : out ≡ zeros (length out) → length out < size → Whole (store (length out) (view c b)) (length out) (Err 51) out
    unfolding store
    no_room z l = let t : leb (length (stored (view c b))) (length out) ≡ false = lt-leb (length (stored (view c b))) (length out) (omega arith) in
        rw t (record { answer = refl; buffer = z ∙ sym (lay-nil (length out)) })

    pub all-written : (d e f g : List ℕ) (m n k j : ℕ) → out ≡ zeros (length out) → size ≤ length out
        → Appended out d 0 m blocks_of → Appended d e m n labels_of → Appended e f n k relocs_of → Appended f g k j (field_of fin) → Whole (store (length out) (view c b)) (length out) (Ok j) g
    unfolding store
    all-written d e f g m n k j z h p q r u =
        let t : leb (length (stored (view c b))) (length out) ≡ true = le-leb (length (stored (view c b))) (length out) (omega arith) in
        let w : Appended out g 0 j (stored (view c b)) = rw four-parts (appended-more (appended-more (appended-more p q) r) u) in
        let y : j ≡ length (stored (view c b)) = w.stop ∙ zero-add (length (stored (view c b))) in
        rw t (record { answer = ap Ok y; buffer = appended-laid out g j (length out) (stored (view c b)) z w })
