-- The tables that pass one leaves: each relocation's name is known, and the counts are the object's. Assumes nothing.
use mathlib.Core.Path.{◌≡◌, refl, sym, ◌∙◌, ap}
use mathlib.Core.List.{List, [], ◌∷◌}
use mathlib.Core.Option.{some}
use Prim.Native.Nat.{ℕ, zero, suc, ◌+◌, ◌-◌, ◌*◌, ◌≤◌}
use native.Mathlib.Omega.{arith}
use lib.ListN.{length, drop, get_or, length-map}
use Rattle.rules.specs.Tables.{Table, look, nat_order, name_order}
use Rattle.rules.specs.Objects.{Cell, Name, object, flat, counts_of}
use Rattle.rules.specs.Passes.{Symbol, Pass1State, ObjBlock}
use Rattle.rules.specs.Buffers.{tab, zeros, head_row, cell_row, sum_of}
use Rattle.rules.proofs.Tables.{none-some}
use Rattle.rules.proofs.Rows.{length-tab, look-tab, sorted-tab}
use Rattle.rules.proofs.Sound.{sum-front}
use Rattle.pass1_symbols.specs.Symbols.{symbols, symbol_row, Growing}
use Rattle.pass1_relocations.specs.Pending.{note_row, notes, Pending}
use Rattle.pass1_relocations.specs.Resolved.{Resolved}
use Rattle.pass2_blocks.specs.Rows.{cells_at, block_row, view_obj_blocks}
use Rattle.laws.proofs.Alongside.{total}
use Rattle.laws.proofs.Known.{Kept}
use Rattle.laws_accepted.proofs.Objects.{blocks_of, labels_of, length-labels}
use Rattle.laws_accepted.proofs.Accepted.{flat-total}

-- zero from a place on
pub zero_rest : (k : ℕ) (l : List ℕ) → ((i : ℕ) → k ≤ i → get_or l i 0 ≡ 0) → drop k l ≡ zeros (length l - k)
zero_rest zero [] h = refl
zero_rest (suc k) [] h = let e : 0 - suc k ≡ 0 = omega arith in rw e
zero_rest zero (x ∷ l) h =
    let e : length l - 0 ≡ length l = omega arith in
    let s : suc (length l) - 0 ≡ suc (length l) = omega arith in
    let t = rw e at (zero_rest zero l (λ i z. h (suc i) (omega arith))) in
    let x₀ = h 0 (omega arith) in
    rw s (λ v. x₀ v ∷ t v)
zero_rest (suc k) (x ∷ l) h =
    let e : suc (length l) - suc k ≡ length l - k = omega arith in
    rw e (zero_rest k l (λ i z. h (suc i) (omega (arith, z))))

-- names known
pub all-resolved : (rs qs src : List ℕ) (nl nr : ℕ) (f : Pass1State) → Kept f → f.symbols ≡ symbols nl rs src → f.relocs ≡ notes nr qs src → Growing rs src nl → Pending qs src nr → Resolved qs src nr rs nl
unfolding notes
all-resolved rs qs src nl nr f k s r g p = record {
  table = p;
  names = g;
  known = λ j l e.
      (let found : look nat_order (tab nr (note_row qs src)) (note_row qs src j).0 ≡ some (note_row qs src j).1 = look-tab nat_order nr (note_row qs src) (sorted-tab nat_order nr (note_row qs src) p.up) j l in
      let o = k.known (note_row qs src j).0 (note_row qs src j).1 (ap (λ (t : Table ℕ Name). look nat_order t (note_row qs src j).0) r ∙ found) in
      none-some (sym (ap (λ (t : Table Name Symbol). look name_order t (note_row qs src j).1) s ∙ e) ∙ o.is));
}

-- COUNTS
total-rows : (n : ℕ) (f : ℕ → ObjBlock) (h : ℕ → ℕ × ℕ) → ((k : ℕ) → length (f k).words ≡ (h k).1) → total (tab n f) ≡ sum_of h n
total-rows zero f h e = refl
total-rows (suc n) f h e =
    let i = total-rows n (λ k. f (suc k)) (λ k. h (suc k)) (λ k. e (suc k)) in
    omega (arith, i, e 0, sum-front h n)

total-view : (n : ℕ) (bs os ws ms : List ℕ) → total (view_obj_blocks n bs os ws ms) ≡ sum_of (head_row bs) n
unfolding view_obj_blocks cells_at
total-view n bs os ws ms = total-rows n (block_row bs os ws ms) (head_row bs) (λ k. length-tab (get_or bs (k * 2 + 1) 0) (λ i. cell_row ws ms (sum_of (head_row bs) k + i)))

length-view : (n : ℕ) (bs os ws ms : List ℕ) → length (view_obj_blocks n bs os ws ms) ≡ n
unfolding view_obj_blocks
length-view n bs os ws ms = length-tab n (block_row bs os ws ms)

length_symbols : (n : ℕ) (rs src : List ℕ) → length (symbols n rs src) ≡ n
unfolding symbols
length_symbols n rs src = length-tab n (symbol_row rs src)

length-notes : (n : ℕ) (qs src : List ℕ) → length (notes n qs src) ≡ n
unfolding notes
length-notes n qs src = length-tab n (note_row qs src)

pub counted : (nb w nl nr : ℕ) (bs os ws ms rs qs src : List ℕ) → sum_of (head_row bs) nb ≡ w → counts_of (object (blocks_of (view_obj_blocks nb bs os ws ms)) (labels_of (symbols nl rs src)) (notes nr qs src)) ≡ record { blocks = nb; words = w; labels = nl; relocs = nr }
counted nb w nl nr bs os ws ms rs qs src s =
    let b : length (blocks_of (view_obj_blocks nb bs os ws ms)) ≡ nb = length-map {B = ℕ × List Cell} (view_obj_blocks nb bs os ws ms) (λ (b : ObjBlock). (b.start, b.words)) ∙ length-view nb bs os ws ms in
    let f : length (flat (blocks_of (view_obj_blocks nb bs os ws ms))) ≡ w = flat-total (view_obj_blocks nb bs os ws ms) ∙ (total-view nb bs os ws ms ∙ s) in
    let l : length (labels_of (symbols nl rs src)) ≡ nl = length-labels (symbols nl rs src) ∙ length_symbols nl rs src in
    let r : length (notes nr qs src) ≡ nr = length-notes nr qs src in
    λ v. record { blocks = b v; words = f v; labels = l v; relocs = r v }
