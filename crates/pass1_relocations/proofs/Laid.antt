-- What the loop that lays relocations keeps. Assumes nothing.
use Rattle.std.specs.declared.option.Option as O
use Rattle.std.specs.declared.option.Option.TheVariants.{Some, None}
use mathlib.Core.Path.{◌≡◌, sym, ◌∙◌, ap}
use mathlib.Core.List.{List, [], ◌∷◌, ◌++◌}
use Prim.Native.Nat.{ℕ, ◌+◌, ◌*◌, ◌≤◌, ◌<◌}
use native.Mathlib.Omega.{arith}
use lib.ListN.{length, get_or, length-set}
use Rattle.rules.specs.Tables.{Table, name_order}
use Rattle.rules.specs.Objects.{Lab, Name}
use Rattle.rules.specs.Buffers.{tab, lay, row_of, reloc_cells}
use Rattle.rules.proofs.Rows.{tab-more, length-tab, sorted-tab}
use Rattle.rules.proofs.Plain.{row-index, relocs-more}
use Rattle.rules.proofs.Fits.{length-reloc_cells}
use Rattle.object.specs.Slots.{upper_row}
use Rattle.base_buffers.specs.Rows.{with_row}
use Rattle.base_buffers.proofs.Pasted.{row_laid}
use Rattle.object_layout_labels.specs.Laying.{upper_labels}
use Rattle.pass1_symbols.specs.Symbols.{symbol_row, Growing}
use Rattle.pass1_symbols.specs.Adding.{Found}
use Rattle.pass1_symbols.proofs.Laid.{symbol-labels}
use Rattle.pass1_relocations.specs.Pending.{note_row, notes}
use Rattle.pass1_relocations.specs.Resolved.{labels_of, Resolved}

-- THE ROW OF A LABEL

-- a row of the symbol table is the row of its name
row-of-name : (m : ℕ) (ss src : List ℕ) (j : ℕ) (x : Name) → Growing ss src m → j < m → (symbol_row ss src j).0 ≡ x → row_of (labels_of m ss src) x ≡ j
unfolding upper_labels
row-of-name m ss src j x v l e =
    rw (← symbol-labels m ss src)
    (rw (← e) (row-index m (upper_row ss src) (sorted-tab name_order m (upper_row ss src) (record { next = v.up.next })) j l))

module _ {rs src ss : List ℕ} {n m : ℕ} {r : O.Option ℕ} {x : Name} (v : Resolved rs src n ss m) (t : Found m ss src x r) where
  pub row-found : {j i : ℕ} → r ≡ Some j → i ≡ j → i ≡ row_of (labels_of m ss src) x
  row-found {j} e q = let u = t.row j e in q ∙ sym (row-of-name m ss src j x v.names u.0 u.1)

-- THE LOOP

pub record Writing (rs src ss : List ℕ) (n m : ℕ) (out₀ out : List ℕ) (k : ℕ) : Type 0 where
  pub within : k ≤ n
  pub room : n * 2 ≤ length out₀
  pub size : length out ≡ length out₀
  pub here : out ≡ lay (reloc_cells (labels_of m ss src) (tab k (note_row rs src))) (length out₀)

module _ {rs src ss : List ℕ} {n m : ℕ} {out₀ out : List ℕ} {k : ℕ} (w : Writing rs src ss n m out₀ out k) (l : k < n) where
  pub writing_more : {out' : List ℕ} {a b : ℕ} → a ≡ get_or rs (k * 4) 0 → b ≡ row_of (labels_of m ss src) (note_row rs src k).1 → out' ≡ with_row out k a b → Writing rs src ss n m out₀ out' (k + 1)
  writing_more {out'} {a} {b} p q e =
      let t : Table Name Lab = labels_of m ss src in
      let s : Table ℕ Name = tab k (note_row rs src) in
      let c : length (reloc_cells (labels_of m ss src) (tab k (note_row rs src))) ≡ k * 2 = length-reloc_cells (labels_of m ss src) (tab k (note_row rs src)) ∙ ap (λ (x : ℕ). x * 2) (length-tab k (note_row rs src)) in
      let f : reloc_cells (labels_of m ss src) (tab k (note_row rs src)) ++ (a ∷ b ∷ []) ≡ reloc_cells (labels_of m ss src) (tab (k + 1) (note_row rs src)) =
      (λ i. reloc_cells (labels_of m ss src) (tab k (note_row rs src)) ++ (p i ∷ q i ∷ []))
      ∙ (sym (relocs-more (labels_of m ss src) (tab k (note_row rs src)) (note_row rs src k)) ∙ ap (reloc_cells (labels_of m ss src)) (sym (tab-more k (note_row rs src)))) in
      record {
        within = omega arith;
        room = w.room;
        size = ap length e ∙ simp (length-set) w.size;
        here = e
            ∙ (ap (λ (x : List ℕ). with_row x k a b) w.here
            ∙ (row_laid (reloc_cells (labels_of m ss src) (tab k (note_row rs src))) (length out₀) k a b c (omega (arith, w.room)) ∙ ap (λ (x : List ℕ). lay x (length out₀)) f));
      }

pub writing-all : {rs src ss : List ℕ} {n m : ℕ} {out₀ out : List ℕ} {k : ℕ} → Writing rs src ss n m out₀ out k → n ≤ k → out ≡ lay (reloc_cells (labels_of m ss src) (notes n rs src)) (length out₀)
unfolding notes
writing-all {rs} {src} {ss} {n} {m} {out₀} {out} {k} w l =
    let e : k ≡ n = omega (arith, w.within) in
    w.here ∙ ap (λ (x : ℕ). lay (reloc_cells (labels_of m ss src) (tab x (note_row rs src))) (length out₀)) e
