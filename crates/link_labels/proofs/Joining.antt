-- The address of a label row or the open mark, and two of them joined. Assumes nothing.
use Rattle.std.specs.declared.option.Option.TheVariants.{Some, None}
use mathlib.Core.Path.{◌≡◌, refl, sym, ◌∙◌}
use mathlib.Core.Bool.{Bool, true, false}
use mathlib.Core.Option.{some}
use mathlib.Core.List.{List}
use Prim.Native.Nat.{ℕ, zero, suc, ◌+◌, ◌*◌, ◌<◌}
use native.Mathlib.Omega.{arith}
use lib.ListN.{get_or}
use borrow.Author.Tests.{eq-eqb, ne_eqb}
use Rattle.rules.specs.Base.{when◌then◌else◌}
use Rattle.rules.specs.Objects.{Lab, outer, defined}
use Rattle.rules.specs.Buffers.{lab_from, lab_row, LabelsOk}
use Rattle.rules.specs.Linking.{differ, join_lab}
use Rattle.rules.proofs.Bools.{never}
use Rattle.link_notes.specs.Notes.{address_in}
use Rattle.link_labels.specs.Matching.{RowIn, joined_as}

pub open-defined : (ls : List ℕ) (k : ℕ) → get_or ls (k * 4 + 1) 0 ≡ 0 → get_or ls (k * 4 + 0) 0 ≡ address_in (some (lab_row ls k))
open-defined ls k e = let z : k * 4 + 0 ≡ k * 4 = omega arith in rw (z, e)

pub open-outer : (ls : List ℕ) (k : ℕ) → (get_or ls (k * 4 + 1) 0 ≡ 0 → ⊥) → ◌≡◌ {A = ℕ} 65536 (address_in (some (lab_row ls k)))
open-outer ls k n = go (get_or ls (k * 4 + 1) 0) n
  where
    go : (f : ℕ) → (f ≡ 0 → ⊥) → ◌≡◌ {A = ℕ} 65536 (address_in (some (lab_from (get_or ls (k * 4) 0) f)))
    go zero n = absurd (n refl)
    go (suc f) n = refl

-- a label at an address, if at any
abbrev pub LowLab : Lab → Type 0
LowLab outer = Unit {0}
LowLab (defined a) = a < 65536

low-lab : (a f : ℕ) → a < 65536 → LowLab (lab_from a f)
low-lab a zero l = l
low-lab a (suc f) l = tt

pub row_low : {ls : List ℕ} {k : ℕ} → RowIn ls k → LowLab (lab_row ls k)
row_low {ls} {k} r = low-lab (get_or ls (k * 4) 0) (get_or ls (k * 4 + 1) 0) r.low

pub row-in : {n k : ℕ} {ls ns : List ℕ} → LabelsOk n ls ns → k < n → RowIn ls k
row-in {k = k} v l = record { here = omega (arith, v.room); low = (v.rows k l).address }

first-open : (u v : Lab) → LowLab u → address_in (some u) ≡ 65536 → Some (address_in (some v)) ≡ joined_as u v
unfolding joined_as differ when◌then◌else◌
first-open outer v l e = refl
first-open (defined a) v l e = absurd (omega arith)

second-open : (u v : Lab) → LowLab v → (address_in (some u) ≡ 65536 → ⊥) → address_in (some v) ≡ 65536 → Some (address_in (some u)) ≡ joined_as u v
unfolding joined_as differ when◌then◌else◌
second-open outer v l n e = absurd (n refl)
second-open (defined a) outer l n e = refl
second-open (defined a) (defined b) l n e = absurd (omega arith)

both_one : (u v : Lab) → (address_in (some u) ≡ 65536 → ⊥) → address_in (some u) ≡ address_in (some v) → Some (address_in (some u)) ≡ joined_as u v
unfolding joined_as differ when◌then◌else◌
both_one outer v n e = absurd (n refl)
both_one (defined a) outer n e = refl
both_one (defined a) (defined b) n e = rw (eq-eqb a b e)

both-apart : (u v : Lab) → (address_in (some u) ≡ 65536 → ⊥) → (address_in (some v) ≡ 65536 → ⊥) → (address_in (some u) ≡ address_in (some v) → ⊥) → None ≡ joined_as u v
unfolding joined_as differ when◌then◌else◌
both-apart outer v n m e = absurd (n refl)
both-apart (defined a) outer n m e = absurd (m refl)
both-apart (defined a) (defined b) n m e = rw (ne_eqb a b e)

-- as the code meets them
module _ {al bl : List ℕ} {i j x y : ℕ} (r : RowIn al i) (t : RowIn bl j) (p : x ≡ address_in (some (lab_row al i))) (q : y ≡ address_in (some (lab_row bl j))) where
  pub join-first-open : x ≡ 65536 → Some y ≡ joined_as (lab_row al i) (lab_row bl j)
  join-first-open e = rw q (first-open (lab_row al i) (lab_row bl j) (row_low r) (sym p ∙ e))

  pub join-second-open : (x ≡ 65536 → ⊥) → y ≡ 65536 → Some x ≡ joined_as (lab_row al i) (lab_row bl j)
  join-second-open n e = rw p (second-open (lab_row al i) (lab_row bl j) (row_low t) (λ z. n (p ∙ z)) (sym q ∙ e))

  pub join_one : (x ≡ 65536 → ⊥) → x ≡ y → Some x ≡ joined_as (lab_row al i) (lab_row bl j)
  join_one n e = rw p (both_one (lab_row al i) (lab_row bl j) (λ z. n (p ∙ z)) (sym p ∙ (e ∙ q)))

  pub join_apart : (x ≡ 65536 → ⊥) → (y ≡ 65536 → ⊥) → (x ≡ y → ⊥) → None ≡ joined_as (lab_row al i) (lab_row bl j)
  join_apart n m e = both-apart (lab_row al i) (lab_row bl j) (λ z. n (p ∙ z)) (λ z. m (q ∙ z)) (λ z. e (p ∙ (z ∙ sym q)))

-- what the answer says of the two
pub at-false : (u v : Lab) {x : ℕ} → Some x ≡ joined_as u v → (differ u (some v) ≡ false) × (x ≡ address_in (some (join_lab u v)))
unfolding joined_as when◌then◌else◌
at-false u v {x} e = go (differ u (some v)) e
  where
    go : (b : Bool) → Some x ≡ (when b then None else Some (address_in (some (join_lab u v)))) → (b ≡ false) × (x ≡ address_in (some (join_lab u v)))
    go true e = never cc
    go false e = (refl, cc)

pub apart-true : (u v : Lab) → None ≡ joined_as u v → differ u (some v) ≡ true
unfolding joined_as when◌then◌else◌
apart-true u v e = go (differ u (some v)) e
  where
    go : (b : Bool) → None ≡ (when b then None else Some (address_in (some (join_lab u v)))) → b ≡ true
    go true e = refl
    go false e = never cc
