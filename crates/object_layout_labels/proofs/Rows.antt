-- A row of four stores, a name in upper case, and a table longer by a label. Assumes nothing.
use mathlib.Core.Path.{◌≡◌, refl, sym, ◌∙◌, ap}
use mathlib.Core.List.{List, [], ◌∷◌, ◌++◌, map, append_assoc, append-nil}
use Prim.Native.Nat.{ℕ, zero, suc, ◌+◌, ◌*◌, ◌≤◌, ◌<◌}
use native.Mathlib.Omega.{arith}
use lib.ListN.{length, get_or, set, length-append, length-map}
use lib.Seq.{paste, sets-eq}
use Rattle.rules.specs.Tokens.{upper}
use Rattle.rules.specs.Tables.{Table}
use Rattle.rules.specs.Objects.{Lab, address_of, Name}
use Rattle.rules.specs.Buffers.{lay, flag_of, lab_from, name_bytes, label_cells}
use Rattle.rules.proofs.Rows.{lay-more}
use Rattle.base_buffers.proofs.Pasted.{Pasted, pasted-more}
use Rattle.object_layout_labels.specs.Laying.{row_cells, PutLabel}

four : (l : List ℕ) (i a f p q : ℕ) → i + 4 ≤ length l → set (set (set (set l i a) (i + 1) f) (i + 2) p) (i + 3) q ≡ paste l i (row_cells a f p q) 4
four l i a f p q h =
    let e1 : i + 1 ≡ suc i = omega arith in
    let e2 : i + 2 ≡ suc (suc i) = omega arith in
    let e3 : i + 3 ≡ suc (suc (suc i)) = omega arith in
    rw (e1, e2, e3) (sets-eq (row_cells a f p q) l i h)

-- a row of four stores
pub row_done : (ls : List ℕ) (k at size a f p q : ℕ) → k * 4 + 4 ≤ length ls → p ≡ at → q ≡ size
    → set (set (set (set ls (k * 4) a) (k * 4 + 1) f) (k * 4 + 2) p) (k * 4 + 3) q ≡ paste ls (k * 4) (row_cells a f at size) 4
row_done ls k at size a f p q l e d = rw (e, d) (four ls (k * 4) a f at size l)

pub put-at : {ls ns ls' ns' : List ℕ} {k at a f a' f' r : ℕ} {m : List ℕ} → PutLabel ls ns ls' ns' k at a f m r → a ≡ a' → f ≡ f' → PutLabel ls ns ls' ns' k at a' f' m r
put-at p d e = rw (d, e) at p

-- a valid row says what its label says
pub lab-cells : (a f : ℕ) → f ≤ 1 → (f ≡ 1 → a ≡ 0) → (a ≡ address_of (lab_from a f)) × (f ≡ flag_of (lab_from a f))
lab-cells a zero l h = (refl, refl)
lab-cells a (suc f) l h = (h (omega arith), omega arith)

-- A NAME IN UPPER CASE

pub long : (a : List ℕ) → length (map upper a) ≡ length a
long a = length-map a upper

at_i : (a : List ℕ) (i : ℕ) → i < length a → get_or (map upper a) i 0 ≡ upper (get_or a i 0)
at_i [] i l = absurd (omega arith)
at_i (x ∷ a) zero l = refl
at_i (x ∷ a) (suc i) l = at_i a i (omega arith)

pub record Upped (d₀ : List ℕ) (at : ℕ) (s d : List ℕ) (i : ℕ) : Type 0 where
  pub within : i ≤ length s
  pub size : length d ≡ length d₀
  pub here : Pasted d₀ at (map upper s) d i

pub upped-more : {d₀ s d : List ℕ} {at i x : ℕ} → Upped d₀ at s d i → at + length s ≤ length d₀ → i < length s → x ≡ upper (get_or s i 0) → Upped d₀ at s (set d (at + i) x) (i + 1)
upped-more {d₀} {s} {d} {at} {i} {x} p room l e =
    let q : Pasted d₀ at (map upper s) (set d (at + i) (get_or (map upper s) i 0)) (i + 1) = pasted-more p.here (omega (arith, long s)) (omega (arith, long s)) in
    let r : Pasted d₀ at (map upper s) (set d (at + i) x) (i + 1) = rw (at_i s i l ∙ sym e) at q in
    record { within = omega arith; size = r.size; here = r }

-- LAYOUT, a label at a time

cells-more : (t : Table Name Lab) (p : ℕ) (e : Name × Lab)
    → label_cells p (t ++ (e ∷ [])) ≡ label_cells p t ++ (address_of e.1 ∷ flag_of e.1 ∷ (p + length (name_bytes t)) ∷ length e.0 ∷ [])
cells-more [] p e = (let q : p ≡ p + 0 = omega arith in ap (λ (x : ℕ). address_of e.1 ∷ flag_of e.1 ∷ x ∷ length e.0 ∷ []) q)
cells-more (d ∷ t) p e =
    let q : p + length d.0 + length (name_bytes t) ≡ p + length (d.0 ++ name_bytes t) = omega (arith, length-append d.0 (name_bytes t)) in
    ap (λ (x : List ℕ). address_of d.1 ∷ flag_of d.1 ∷ p ∷ length d.0 ∷ x)
    (cells-more t (p + length d.0) e ∙ ap (λ (y : ℕ). label_cells (p + length d.0) t ++ (address_of e.1 ∷ flag_of e.1 ∷ y ∷ length e.0 ∷ [])) q)

bytes-more : (t : Table Name Lab) (e : Name × Lab) → name_bytes (t ++ (e ∷ [])) ≡ name_bytes t ++ e.0
bytes-more [] e = append-nil e.0
bytes-more (d ∷ t) e = ap (λ (x : List ℕ). d.0 ++ x) (bytes-more t e) ∙ sym (append_assoc d.0 (name_bytes t) e.0)

length-cells : (t : Table Name Lab) (p : ℕ) → length (label_cells p t) ≡ length t * 4
length-cells [] p = refl
length-cells (e ∷ t) p = let q = length-cells t (p + length e.0) in omega arith

-- the table t stands in the buffers, whose lengths were those of ls₀ and ns₀
pub record Standing (t : Table Name Lab) (ls₀ ns₀ ls ns : List ℕ) (k at : ℕ) : Type 0 where
  pub count : length t ≡ k
  pub end : length (name_bytes t) ≡ at
  pub rows : ls ≡ lay (label_cells 0 t) (length ls₀)
  pub names : ns ≡ lay (name_bytes t) (length ns₀)

-- THE STEP: a label put behind the others makes the table longer by it
pub standing-more : (t : Table Name Lab) (ls₀ ns₀ ls ns ls' ns' : List ℕ) (k at r : ℕ) (e : Name × Lab) → Standing t ls₀ ns₀ ls ns k at
    → PutLabel ls ns ls' ns' k at (address_of e.1) (flag_of e.1) e.0 r → k * 4 + 4 ≤ length ls₀ → at + length e.0 ≤ length ns₀
    → Standing (t ++ (e ∷ [])) ls₀ ns₀ ls' ns' (k + 1) r
standing-more t ls₀ ns₀ ls ns ls' ns' k at r e s p u v =
    let c : length (label_cells 0 t) ≡ k * 4 = length-cells t 0 ∙ ap (λ (x : ℕ). x * 4) s.count in
    let z : 0 + length (name_bytes t) ≡ at = omega (arith, s.end) in
    record {
      count = omega (arith, length-append t (e ∷ []), s.count);
      end = omega (arith, ap length (bytes-more t e), length-append (name_bytes t) e.0, s.end, p.next);
      rows = p.row
          ∙ (ap (λ (x : List ℕ). paste x (k * 4) (address_of e.1 ∷ flag_of e.1 ∷ at ∷ length e.0 ∷ []) 4) s.rows
          ∙ (ap (λ (x : ℕ). paste (lay (label_cells 0 t) (length ls₀)) x (address_of e.1 ∷ flag_of e.1 ∷ at ∷ length e.0 ∷ []) 4) (sym c)
          ∙ (lay-more (label_cells 0 t) (address_of e.1 ∷ flag_of e.1 ∷ at ∷ length e.0 ∷ []) (length ls₀) (omega arith)
          ∙ ap (λ (x : List ℕ). lay x (length ls₀)) (sym (cells-more t 0 e ∙ ap (λ (y : ℕ). label_cells 0 t ++ (address_of e.1 ∷ flag_of e.1 ∷ y ∷ length e.0 ∷ [])) z)))));
      names = p.bytes
          ∙ (ap (λ (x : List ℕ). paste x at e.0 (length e.0)) s.names
          ∙ (ap (λ (x : ℕ). paste (lay (name_bytes t) (length ns₀)) x e.0 (length e.0)) (sym s.end)
          ∙ (lay-more (name_bytes t) e.0 (length ns₀) (omega (arith, s.end)) ∙ ap (λ (x : List ℕ). lay x (length ns₀)) (sym (bytes-more t e)))));
    }
