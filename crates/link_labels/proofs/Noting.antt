-- The notes of an object's label rows, a row longer. Assumes nothing.
use mathlib.Core.Path.{◌≡◌, sym, ◌∙◌, ap}
use mathlib.Core.Option.{some}
use mathlib.Core.List.{List}
use Prim.Native.Nat.{ℕ, ◌+◌, ◌*◌, ◌<◌}
use native.Mathlib.Omega.{arith}
use native.Mathlib.Decide.{dec_lt}
use lib.ListN.{length, get_or, set, length-set}
use lib.Seq.{get_or-set_same, get_or-set_other}
use Rattle.rules.specs.Tables.{Table, look, name_order}
use Rattle.rules.specs.Objects.{Lab, Name}
use Rattle.rules.specs.Buffers.{name_row, row_of}
use Rattle.base_buffers.specs.Rows.{with_row}
use Rattle.link_notes.specs.Notes.{address_in, Noted}
use Rattle.link_labels.proofs.Rests.{Here}

-- cells of a row of two, written and not
pub length-row : (t : List ℕ) (k a b : ℕ) → length (with_row t k a b) ≡ length t
length-row t k a b = simp length-set

row_new : (t : List ℕ) (k a b : ℕ) → k * 2 + 1 < length t → (get_or (with_row t k a b) (k * 2) 0 ≡ a) × (get_or (with_row t k a b) (k * 2 + 1) 0 ≡ b)
row_new t k a b l = (
  get_or-set_other (set t (k * 2) a) (k * 2 + 1) (k * 2) b 0 (λ e. (omega arith)) ∙ get_or-set_same t (k * 2) a 0 (omega arith),
  get_or-set_same (set t (k * 2) a) (k * 2 + 1) b 0 (simp length-set (omega arith)),
)

row_old : (t : List ℕ) (k a b i : ℕ) → i < k * 2 → get_or (with_row t k a b) i 0 ≡ get_or t i 0
row_old t k a b i l = get_or-set_other (set t (k * 2) a) (k * 2 + 1) i b 0 (λ e. (omega arith)) ∙ get_or-set_other t (k * 2) i a 0 (λ e. (omega arith))

pub noted-none : {all : Table Name Lab} {ls names xs : List ℕ} → Noted all ls names 0 xs
noted-none = record { room = omega arith; row = λ k l. absurd (omega arith); address = λ k l. absurd (omega arith) }

-- the row i, whose name stands in row k of the result
pub noted_more : {all : Table Name Lab} {ls names xs : List ℕ} {i k x : ℕ} {e : Name × Lab} → Noted all ls names i xs → i * 2 + 1 < length xs → Here all k e → name_row ls names i ≡ e.0 → x ≡ address_in (some e.1)
    → Noted all ls names (i + 1) (with_row xs i k x)
noted_more {all} {ls} {names} {xs} {i} {k} {x} {e} t l h q d =
    let new = row_new xs i k x l in
    record {
      room = omega (arith, length-row xs i k x);
      row = λ s p. elim (dec_lt s i) [
        | yes o ↦ row_old xs i k x (s * 2) (omega arith) ∙ t.row s o
        | no o ↦ (let z : i ≡ s = omega arith in rw (← z) (new.0 ∙ sym (ap (row_of all) q ∙ h.row)))
      ];
      address = λ s p. elim (dec_lt s i) [
        | yes o ↦ row_old xs i k x (s * 2 + 1) (omega arith) ∙ t.address s o
        | no o ↦ (let z : i ≡ s = omega arith in rw (← z) (new.1 ∙ (d ∙ ap address_in (sym (ap (look name_order all) q ∙ h.found)))))
      ];
    }
