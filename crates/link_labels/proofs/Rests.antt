-- What is left of the labels of two objects when some rows of each are out, and what stands in the next row of the result. Assumes nothing.
use mathlib.Core.Path.{◌≡◌, refl, sym, ◌∙◌, ap}
use mathlib.Core.Option.{some}
use mathlib.Core.List.{List, [], ◌∷◌}
use Prim.Native.Nat.{ℕ, zero, suc, ◌+◌, ◌≤◌, ◌<◌, suc-le-suc, zero-le}
use native.Mathlib.Omega.{arith}
use native.Mathlib.Decide.{dec_lt}
use lib.ListN.{length}
use Rattle.rules.specs.Tables.{Table, Tri, less, same, more, Sorted, Before, name_order, look, before_irr}
use Rattle.rules.specs.Objects.{Lab, outer, Name}
use Rattle.rules.specs.Buffers.{name_row, lab_row, label_row, view_labels, pick_row, row_of, LabelsOk}
use Rattle.rules.specs.Linking.{join_lab}
use Rattle.rules.proofs.Bools.{never}
use Rattle.rules.proofs.Tables.{none-some, look-here, look-there, look-low, sorted_merge}
use Rattle.rules.proofs.Rows.{sorted-tab}
use Rattle.rules.proofs.Merging.{left, left-start, left_over, left-first, left-second, left_both}
use Rattle.base_text.specs.Runs.{from}
use Rattle.base_text.proofs.Rest.{from_start, from_next}
use Rattle.link_labels.specs.Matching.{both_labels, FirstNext, SecondNext, BothNext, NoneNext}

-- ROWS OF A SORTED TABLE

row_here : (e : Name × Lab) (t : Table Name Lab) (n : Name) → n ≡ e.0 → row_of (e ∷ t) n ≡ 0
row_here e t n q = go (name_order.tri n e.0)
  where
    go : (c : Tri Before n e.0) → pick_row c (suc (row_of t n)) ≡ 0
    go (less h) = absurd (before_irr n (rw (← q) at h))
    go (same p) = refl
    go (more h) = absurd (before_irr n (rw (← q) at h))

row-there : (e : Name × Lab) (t : Table Name Lab) (n : Name) → (n ≡ e.0 → ⊥) → row_of (e ∷ t) n ≡ suc (row_of t n)
row-there e t n q = go (name_order.tri n e.0)
  where
    go : (c : Tri Before n e.0) → pick_row c (suc (row_of t n)) ≡ suc (row_of t n)
    go (less h) = refl
    go (same p) = absurd (q p)
    go (more h) = refl

-- e stands in row k of t
pub record Here (t : Table Name Lab) (k : ℕ) (e : Name × Lab) : Type 0 where
  pub within : k < length t
  pub row : row_of t e.0 ≡ k
  pub found : look name_order t e.0 ≡ some e.1

pub here : (t : Table Name Lab) (k : ℕ) (e : Name × Lab) (r : Table Name Lab) → Sorted name_order t → from t k ≡ e ∷ r → Here t k e
unfolding from
here [] zero e r s q = never cc
here [] (suc k) e r s q = never cc
here (d ∷ t) zero e r s q =
    let p : d ≡ e = cc in
    let n : e.0 ≡ d.0 = ap (λ (x : Name × Lab). x.0) (sym p) in
    record {
      within = suc-le-suc zero-le;
      row = row_here d t e.0 n;
      found = look-here name_order d t e.0 n ∙ ap (λ (x : Name × Lab). some x.1) p;
    }
here (d ∷ t) (suc k) e r s q =
    let h = here t k e r s.1 q in
    let n : (e.0 ≡ d.0 → ⊥) = λ p. none-some (sym (ap (look name_order t) p ∙ look-low name_order d.0 t s.0) ∙ h.found) in
    record {
      within = suc-le-suc h.within;
      row = row-there d t e.0 n ∙ ap suc h.row;
      found = look-there name_order d t e.0 n ∙ h.found;
    }

-- what follows the row
pub after : (t : Table Name Lab) (k : ℕ) (e : Name × Lab) (r : Table Name Lab) → k < length t → from t k ≡ e ∷ r → from t (k + 1) ≡ r
after t k e r l q = let p = from_next ([], outer) t k l in cc

-- THE REST: k rows of the result are out, of which i are of the first object and j of the second

pub record Rest (m : ℕ) (al an : List ℕ) (n : ℕ) (bl bn : List ℕ) (i j k : ℕ) : Type 0 where
  pub first-in : i ≤ m
  pub second-in : j ≤ n
  pub few : k ≤ i + j
  pub count : k ≤ length (both_labels m al an n bl bn)
  pub rest : from (both_labels m al an n bl bn) k ≡ left name_order join_lab m (label_row al an) n (label_row bl bn) i j

module _ {m : ℕ} {al an : List ℕ} {n : ℕ} {bl bn : List ℕ} (a : LabelsOk m al an) (b : LabelsOk n bl bn) where
  pub both-sorted : Sorted name_order (both_labels m al an n bl bn)
  unfolding both_labels view_labels
  both-sorted = sorted_merge name_order join_lab (view_labels m al an) (view_labels n bl bn) (sorted-tab name_order n (label_row bl bn) b.up)

  start : both_labels m al an n bl bn ≡ left name_order join_lab m (label_row al an) n (label_row bl bn) 0 0
  unfolding both_labels view_labels
  start = sym (left-start name_order join_lab a.up b.up)

  pub rest-start : Rest m al an n bl bn 0 0 0
  rest-start = record { first-in = omega arith; second-in = omega arith; few = omega arith; count = omega arith; rest = from_start (both_labels m al an n bl bn) ∙ start }

  module _ {i j k : ℕ} (c : Rest m al an n bl bn i j k) where
    next_here : (e : Name × Lab) (r : Table Name Lab) → left name_order join_lab m (label_row al an) n (label_row bl bn) i j ≡ e ∷ r → Here (both_labels m al an n bl bn) k e
    next_here e r q = here (both_labels m al an n bl bn) k e r both-sorted (c.rest ∙ q)

    next-rest : (e : Name × Lab) (p q : ℕ) → left name_order join_lab m (label_row al an) n (label_row bl bn) i j ≡ e ∷ left name_order join_lab m (label_row al an) n (label_row bl bn) p q
        → p ≤ m → q ≤ n → i + j < p + q → Rest m al an n bl bn p q (k + 1)
    next-rest e p q d u v w =
        let h = next_here e (left name_order join_lab m (label_row al an) n (label_row bl bn) p q) d in
        record {
          first-in = u;
          second-in = v;
          few = omega (arith, c.few);
          count = omega (arith, h.within);
          rest = after (both_labels m al an n bl bn) k e (left name_order join_lab m (label_row al an) n (label_row bl bn) p q) h.within (c.rest ∙ d);
        }

    module _ (s : FirstNext m al an n bl bn i j) where
      pub first-here : Here (both_labels m al an n bl bn) k (label_row al an i)
      first-here = next_here (label_row al an i) _ (left-first name_order join_lab a.up b.up i j s.within s.low)

      pub first_rest : Rest m al an n bl bn (i + 1) j (k + 1)
      first_rest = next-rest (label_row al an i) (i + 1) j (left-first name_order join_lab a.up b.up i j s.within s.low) (omega (arith, s.within)) c.second-in (omega arith)

    module _ (s : SecondNext m al an n bl bn i j) where
      pub second-here : Here (both_labels m al an n bl bn) k (label_row bl bn j)
      second-here = next_here (label_row bl bn j) _ (left-second name_order join_lab a.up b.up i j s.within s.low)

      pub second-rest : Rest m al an n bl bn i (j + 1) (k + 1)
      second-rest = next-rest (label_row bl bn j) i (j + 1) (left-second name_order join_lab a.up b.up i j s.within s.low) c.first-in (omega (arith, s.within)) (omega arith)

    module _ (s : BothNext m al an n bl bn i j) where
      pub both-here : Here (both_labels m al an n bl bn) k (name_row bl bn j, join_lab (lab_row al i) (lab_row bl j))
      both-here = next_here (name_row bl bn j, join_lab (lab_row al i) (lab_row bl j)) _ (left_both name_order join_lab a.up b.up i j s.first s.second s.same)

      pub both_rest : Rest m al an n bl bn (i + 1) (j + 1) (k + 1)
      both_rest =
          next-rest (name_row bl bn j, join_lab (lab_row al i) (lab_row bl j)) (i + 1) (j + 1) (left_both name_order join_lab a.up b.up i j s.first s.second s.same)
          (omega (arith, s.first)) (omega (arith, s.second)) (omega arith)

    -- nothing is left: all rows are out
    pub none_rest : NoneNext m n i j → k ≡ length (both_labels m al an n bl bn)
    none_rest s = elim (dec_lt k (length (both_labels m al an n bl bn))) [
      | yes l ↦ (let p = from_next ([], outer) (both_labels m al an n bl bn) k l in let q = c.rest ∙ left_over name_order join_lab a.up b.up i j s.first s.second in never cc)
      | no l ↦ omega (arith, c.count)
    ]
