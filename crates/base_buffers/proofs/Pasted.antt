-- What a loop that copies a list into another at a place keeps, and what is written behind what is laid. Assumes nothing.
use Prim.Native.Nat.{ℕ, suc, ◌+◌, ◌-◌, ◌*◌, ◌≤◌, ◌<◌}
use mathlib.Core.Path.{◌≡◌, refl, ap, sym, ◌∙◌}
use mathlib.Core.List.{List, [], ◌∷◌, ◌++◌}
use native.Mathlib.Omega.{arith}
use native.Mathlib.Numerals.{add-one}
use lib.ListN.{length, set, get_or, length-set}
use lib.Seq.{paste, paste-zero, paste-suc, sets-eq}
use Rattle.rules.specs.Buffers.{lay}
use Rattle.rules.proofs.Rows.{length-lay, lay-more}
use Rattle.base_buffers.specs.Rows.{with_row}
use Rattle.base_buffers.specs.Eights.{with_eight, PutRest}

pub record Pasted (d₀ : List ℕ) (at : ℕ) (s d : List ℕ) (i : ℕ) : Type 0 where
  pub within : i ≤ length s
  pub size : length d ≡ length d₀
  pub here : d ≡ paste d₀ at s i

pub pasted-none : (d : List ℕ) (at : ℕ) (s : List ℕ) → Pasted d at s d 0
pasted-none d at s = record { within = omega arith; size = refl; here = paste-zero d at s }

pub pasted-more : {d₀ : List ℕ} {at : ℕ} {s d : List ℕ} {i : ℕ} → Pasted d₀ at s d i → at + length s ≤ length d₀ → i < length s
    → Pasted d₀ at s (set d (at + i) (get_or s i 0)) (i + 1)
pasted-more {d₀} {at} {s} {d} {i} p room l =
    record {
      within = omega arith;
      size = length-set d (at + i) (get_or s i 0) ∙ p.size;
      here = ap (λ (x : List ℕ). set x (at + i) (get_or s i 0)) p.here ∙ paste-suc d₀ at s i 0 (omega arith) l ∙ ap (paste d₀ at s) (sym (add-one i));
    }

pub pasted-all : {d₀ : List ℕ} {at : ℕ} {s d : List ℕ} {i : ℕ} → Pasted d₀ at s d i → length s ≤ i → d ≡ paste d₀ at s (length s)
pasted-all {d₀} {at} {s} {d} {i} p l = let e : i ≡ length s = omega arith in p.here ∙ ap (paste d₀ at s) e

-- the same of cells of any type: one cell on, and all of them
module _ {A : Type 0} (d₀ s d : List A) (at k : ℕ) (h : d ≡ paste d₀ at s k) where
  pub cell-pasted : {x : A} → at + length s ≤ length d₀ → k < length s → x ≡ get_or s k x → set d (at + k) x ≡ paste d₀ at s (k + 1)
  cell-pasted {x} room l e =
      ap (λ (y : A). set d (at + k) y) e
      ∙ ap (λ (b : List A). set b (at + k) (get_or s k x)) h
      ∙ paste-suc d₀ at s k x (omega arith) l
      ∙ ap (paste d₀ at s) (sym (add-one k))

  pub cells-pasted : length s ≤ k → k ≤ length s → d ≡ paste d₀ at s (length s)
  cells-pasted l m = let e : k ≡ length s = omega arith in h ∙ ap (paste d₀ at s) e

-- eight on
with-eight : {d₀ : List ℕ} {at : ℕ} {s d : List ℕ} {i : ℕ} → Pasted d₀ at s d i → at + length s ≤ length d₀ → i + 8 ≤ length s
    → Pasted d₀ at s (with_eight d at s i) (i + 8)
unfolding with_eight
with-eight {d₀} {at} {s} {d} {i} p room l =
    let p1 = pasted-more p room (omega arith) in
    let e2 : i + 1 + 1 ≡ i + 2 = omega arith in
    let p2 = rw e2 at (pasted-more p1 room (omega arith)) in
    let e3 : i + 2 + 1 ≡ i + 3 = omega arith in
    let p3 = rw e3 at (pasted-more p2 room (omega arith)) in
    let e4 : i + 3 + 1 ≡ i + 4 = omega arith in
    let p4 = rw e4 at (pasted-more p3 room (omega arith)) in
    let e5 : i + 4 + 1 ≡ i + 5 = omega arith in
    let p5 = rw e5 at (pasted-more p4 room (omega arith)) in
    let e6 : i + 5 + 1 ≡ i + 6 = omega arith in
    let p6 = rw e6 at (pasted-more p5 room (omega arith)) in
    let e7 : i + 6 + 1 ≡ i + 7 = omega arith in
    let p7 = rw e7 at (pasted-more p6 room (omega arith)) in
    let e8 : i + 7 + 1 ≡ i + 8 = omega arith in
    let p8 = rw e8 at (pasted-more p7 room (omega arith)) in
    p8

pub pasted-eight : {d₀ : List ℕ} {at : ℕ} {s d e : List ℕ} {i : ℕ} → Pasted d₀ at s d i → at + length s ≤ length d₀ → 8 ≤ length s - i → e ≡ with_eight d at s i
    → Pasted d₀ at s e (i + 8)
pasted-eight p room l q = rw q (with-eight p room (omega arith))

-- the rest: from index i on, whatever stood there before
pub record Resting (d : List ℕ) (at : ℕ) (s e : List ℕ) (i k : ℕ) : Type 0 where
  pub size : length e ≡ length d
  pub within : k ≤ length s
  pub here : (d₀ : List ℕ) → length d ≡ length d₀ → d ≡ paste d₀ at s i → e ≡ paste d₀ at s k

pub resting-none : (d : List ℕ) (at : ℕ) (s : List ℕ) (i : ℕ) → i ≤ length s → Resting d at s d i i
resting-none d at s i l = record { size = refl; within = l; here = λ d₀ q e. e }

pub resting-more : {d : List ℕ} {at : ℕ} {s e : List ℕ} {i k : ℕ} → Resting d at s e i k → at + length s ≤ length d → k < length s
    → Resting d at s (set e (at + k) (get_or s k 0)) i (k + 1)
resting-more {d} {at} {s} {e} {i} {k} r room l = record {
  size = length-set e (at + k) (get_or s k 0) ∙ r.size;
  within = omega arith;
  here = λ d₀ q p. (let f : Pasted d₀ at s e k = record { within = r.within; size = r.size ∙ q; here = r.here d₀ q p } in (pasted-more f (omega (arith, q)) l).here);
}

pub resting-all : {d : List ℕ} {at : ℕ} {s e : List ℕ} {i k : ℕ} → Resting d at s e i k → length s ≤ k → PutRest d e at s i
resting-all {d} {at} {s} {e} {i} {k} r l = record { all = λ d₀ q p. (let z : k ≡ length s = omega (arith, r.within) in rw z at (r.here d₀ q p)) }

-- all of it
pub pasted-rest : {d₀ : List ℕ} {at : ℕ} {s d e : List ℕ} {i : ℕ} → Pasted d₀ at s d i → PutRest d e at s i → e ≡ paste d₀ at s (length s)
pasted-rest {d₀} p r = r.all d₀ p.size p.here

-- a row of two cells behind those that are laid
pub row_laid : (l : List ℕ) (len k a b : ℕ) → length l ≡ k * 2 → k * 2 + 1 < len → with_row (lay l len) k a b ≡ lay (l ++ (a ∷ b ∷ [])) len
row_laid l len k a b e h =
    let d : k * 2 + 1 ≡ suc (k * 2) = omega arith in
    rw (d, ← e) (sets-eq (a ∷ b ∷ []) (lay l len) (length l) (omega (arith, length-lay l len (omega arith))) ∙ lay-more l (a ∷ b ∷ []) len (omega arith))
