-- What each way through the lookups shows. Assumes nothing.
use mathlib.Core.Path.{◌≡◌, refl, sym, ◌∙◌, ap}
use mathlib.Core.Bool.{Bool, true, false}
use mathlib.Core.Option.{none, some}
use mathlib.Core.List.{List, map}
use Prim.Native.Nat.{ℕ, zero, suc, ◌+◌, ◌*◌, ◌≤◌, ◌<◌, suc-le-suc, zero-le}
use native.Mathlib.Nat.{not-suc-le-zero, le_of_suc-le-suc}
use native.Mathlib.Decide.{dec_lt}
use native.Mathlib.Omega.{arith}
use lib.ListN.{length, get_or}
use borrow.Author.Tests.{eq-eqb, ne_eqb}
use Rattle.rules.specs.Base.{ok}
use Rattle.rules.specs.Tokens.{upper}
use Rattle.rules.specs.Tables.{look, name_order, before_irr}
use Rattle.rules.specs.Objects.{Lab, address_of, Name, Counts, first_at, lookup_label, rev_lookup_label}
use Rattle.rules.specs.Buffers.{Buffers, tab, name_row, lab_from, lab_row, label_row, view, view_labels, LabelsOk}
use Rattle.rules.proofs.Named.{name-upper}
use Rattle.rules.proofs.Rows.{look_none}
use Rattle.rules.proofs.Sound.{label-held}
use Rattle.object.specs.Slots.{upper_name, Rising, Slotted}
use Rattle.rules.specs.Calls.{OfObject}
use Rattle.rules.proofs.Bools.{never}
use Rattle.object_check.specs.Checked.{outcome}
use Rattle.object_check.proofs.Whole.{goes_on}
use Rattle.std.specs.declared.result.Result.{Result}
use Rattle.std.specs.declared.result.Result.TheVariants.{Ok, Err}
use Rattle.std.specs.declared.option.Option as O
use Rattle.std.specs.declared.option.Option.TheVariants.{Some, None}
use Rattle.object.specs.declared.Label.{Label}
use Rattle.object.specs.Meaning.{lab}
use Rattle.object_check.specs.declared.ObjectErr.{ObjectErr}
use Rattle.object_check.specs.declared.ObjectErr.TheVariants.{ShortBuffer, BadObject}
use Rattle.object_lookup.specs.Told.{said, Reached, Reversed}

-- BY NAME

-- a valid object's names stand in upper case
upper-as : {n : ℕ} {ls ns : List ℕ} → LabelsOk n ls ns → (k : ℕ) → k < n → upper_name ls ns k ≡ name_row ls ns k
upper-as {n} {ls} {ns} v k l = name-upper (name_row ls ns k) (v.rows k l).name

pub rising : {n : ℕ} {ls ns : List ℕ} → LabelsOk n ls ns → Rising ls ns n
rising {n} {ls} {ns} v = record {
  up = record {
    next = λ k h. (
        let l : k < n = omega arith in
        rw (upper-as v k l, upper-as v (suc k) h) (v.up.next k h));
  };
}

module _ {n : ℕ} {ls ns : List ℕ} {x : Name} {r : Result ℕ ℕ} (v : LabelsOk n ls ns) (t : Slotted ls ns n x r) where
  pub taken_in : {k : ℕ} → r ≡ Ok k → k * 4 + 4 ≤ length ls
  taken_in {k} e = omega (arith, v.room, (t.taken k e).0)

  pub said_row : {k : ℕ} (l : Label) → r ≡ Ok k → lab l ≡ lab_row ls k → said (Ok (Some l)) ≡ ok (look name_order (view_labels n ls ns) x)
  said_row {k} l e q =
      let u = t.taken k e in
      let m : name_row ls ns k ≡ x = sym (upper-as v k u.0) ∙ u.1 in
      ap (λ (y : Lab). ok (some y)) q ∙ ap ok (rw (← m) (sym (label-held n ls ns v k u.0)))

  pub said-nothing : {p : ℕ} → r ≡ Err p → said (Ok None) ≡ ok (look name_order (view_labels n ls ns) x)
  unfolding view_labels
  said-nothing {p} e = ap ok (sym (look_none name_order n (label_row ls ns) x go))
    where
      go : (k : ℕ) → k < n → x ≡ name_row ls ns k → ⊥
      go k b q = elim (dec_lt k p) [
        | yes d ↦ before_irr x (rw (upper-as v k b ∙ sym q) at (t.below p e k d))
        | no d ↦ before_irr x (rw (upper-as v k b ∙ sym q) at (t.above p e k (omega arith) b))
      ]

-- BY ADDRESS

address-of : (a f : ℕ) → f ≤ 1 → (f ≡ 1 → a ≡ 0) → address_of (lab_from a f) ≡ a
address-of a zero h o = refl
address-of a (suc f) h o = sym (o (omega arith))

held_at : {n : ℕ} {ls ns : List ℕ} → LabelsOk n ls ns → (k : ℕ) → k < n → address_of (lab_row ls k) ≡ get_or ls (k * 4) 0
held_at {n} {ls} {ns} v k l = let w = v.rows k l in address-of (get_or ls (k * 4) 0) (get_or ls (k * 4 + 1) 0) w.flag w.outside

-- the first row at an address
first-row : (a n : ℕ) (f : ℕ → Name × Lab) (k : ℕ) → k < n → ((j : ℕ) → j < k → address_of (f j).1 ≡ a → ⊥) → address_of (f k).1 ≡ a → first_at a (tab n f) ≡ some (f k).0
unfolding first_at
first-row a zero f k l h e = absurd (not-suc-le-zero l)
first-row a (suc n) f zero l h e = ap (λ (b : Bool). elim b [ true ↦ some (f 0).0 | false ↦ first_at a (tab n (λ i. f (suc i))) ]) (eq-eqb (address_of (f 0).1) a e)
first-row a (suc n) f (suc k) l h e =
    ap (λ (b : Bool). elim b [ true ↦ some (f 0).0 | false ↦ first_at a (tab n (λ i. f (suc i))) ]) (ne_eqb (address_of (f 0).1) a (h 0 (suc-le-suc zero-le)))
    ∙ first-row a n (λ i. f (suc i)) k (le_of_suc-le-suc l) (λ j m. h (suc j) (suc-le-suc m)) e

first-none : (a n : ℕ) (f : ℕ → Name × Lab) → ((j : ℕ) → j < n → address_of (f j).1 ≡ a → ⊥) → first_at a (tab n f) ≡ none
unfolding first_at
first-none a zero f h = refl
first-none a (suc n) f h =
    ap (λ (b : Bool). elim b [ true ↦ some (f 0).0 | false ↦ first_at a (tab n (λ i. f (suc i))) ]) (ne_eqb (address_of (f 0).1) a (h 0 (suc-le-suc zero-le)))
    ∙ first-none a n (λ i. f (suc i)) (λ j m. h (suc j) (suc-le-suc m))

-- no row below k is at the address
pub record Passed (n : ℕ) (ls : List ℕ) (a k : ℕ) : Type 0 where
  pub within : k ≤ n
  pub none : (j : ℕ) → j < k → get_or ls (j * 4) 0 ≡ a → ⊥

module _ {n a k : ℕ} {ls ns : List ℕ} (v : LabelsOk n ls ns) (p : Passed n ls a k) where
  pub reached-row : k < n → get_or ls (k * 4) 0 ≡ a → Reached n ls ns a (Some k)
  unfolding view_labels
  reached-row l e = record {
    name = ap ok (sym (first-row a n (label_row ls ns) k l (λ j m q. p.none j m (sym (held_at v j (omega arith)) ∙ q)) (held_at v k l ∙ e)));
    row = λ j q. (let y : k ≡ j = cc in omega arith);
  }

  pub reached-none : n ≤ k → Reached n ls ns a None
  unfolding view_labels
  reached-none l = record {
    name = ap ok (sym (first-none a n (label_row ls ns) (λ j m q. p.none j (omega arith) (sym (held_at v j m) ∙ q))));
    row = λ j q. (never cc);
  }

-- AFTER THE CHECK
module _ {c : Counts} {b : Buffers} (r : Result (Unit {0}) ObjectErr) (l : OfObject c b (ok tt) (outcome r)) where
  pub looked-up : (m : List ℕ) (s : O.Option Label) → r ≡ Ok tt → said (Ok s) ≡ ok (look name_order (view_labels c.labels b.labels b.names) (map upper m))
      → OfObject c b (ok (lookup_label (view c b) m)) (said (Ok s))
  unfolding lookup_label
  looked-up m s q e = goes_on r l q e

  pub reversed : {a : ℕ} {s : O.Option ℕ} → r ≡ Ok tt → Reached c.labels b.labels b.names a s → Reversed c b a (Ok s)
  unfolding rev_lookup_label
  reversed q e = record { name = goes_on r l q e.name; row = λ k z. e.row k (cc) }
