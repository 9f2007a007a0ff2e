-- Two answers that the contract of a lookup allows are equal. Assumes nothing.
use mathlib.Core.Path.{◌≡◌, refl, sym, ◌∙◌, ap}
use mathlib.Core.Option.{Option, none, some}
use mathlib.Core.List.{List}
use Prim.Native.Nat.{ℕ, ◌<◌}
use native.Mathlib.Decide.{dec_lt}
use native.Mathlib.Omega.{arith}
use lib.Dec.{eqb}
use Rattle.rules.specs.Base.{when◌then◌else◌, Outcome, ok, refused}
use Rattle.rules.specs.Tables.{name_order}
use Rattle.rules.specs.Objects.{Lab, outer, defined, Name, Counts, lookup_label}
use Rattle.rules.specs.Buffers.{Buffers, name_row, label_row, view, LabelsOk, Valid}
use Rattle.rules.proofs.Bools.{never}
use Rattle.rules.proofs.Tables.{lt-ne}
use Rattle.rules.proofs.Rows.{up_lt}
use Rattle.rules.specs.Calls.{OfObject, too_short, bad_object, on_object}
use Rattle.rules.proofs.Calls.{answered-once}
use Rattle.object_lookup.specs.Told.{said, found, Reversed}
use Rattle.std.specs.declared.result.Result.{Result}
use Rattle.std.specs.declared.result.Result.TheVariants.{Ok, Err}
use Rattle.std.specs.declared.option.Option as O
use Rattle.std.specs.declared.option.Option.TheVariants.{Some, None}
use Rattle.object.specs.declared.Label.{Label}
use Rattle.object.specs.declared.Label.TheVariants.{Defined, External}
use Rattle.object_check.specs.declared.ObjectErr.{ObjectErr}
use Rattle.object_check.specs.declared.ObjectErr.TheVariants.{ShortBuffer, BadObject}

-- the answer of an outcome
back : Outcome (Option Lab) → Result (O.Option Label) ObjectErr
back (ok (some (defined a))) = Ok (Some (Defined a))
back (ok (some outer)) = Ok (Some External)
back (ok none) = Ok None
back (refused r) = when eqb r.number 42 then Err ShortBuffer else Err BadObject

back-said : (r : Result (O.Option Label) ObjectErr) → back (said r) ≡ r
unfolding back when◌then◌else◌
back-said (Ok (Some (Defined a))) = refl
back-said (Ok (Some External)) = refl
back-said (Ok None) = refl
back-said (Err ShortBuffer) = refl
back-said (Err BadObject) = refl

-- of `lookup_label`
pub said-once : (c : Counts) (b : Buffers) (m : List ℕ) (r s : Result (O.Option Label) ObjectErr)
    → OfObject c b (ok (lookup_label (view c b) m)) (said r) → OfObject c b (ok (lookup_label (view c b) m)) (said s) → r ≡ s
said-once c b m r s l k = sym (back-said r) ∙ (ap back (answered-once l k) ∙ back-said s)

-- two rows of valid labels with one name are one row
rows-one : {n : ℕ} {ls ns : List ℕ} → LabelsOk n ls ns → (k j : ℕ) → k < n → j < n → name_row ls ns k ≡ name_row ls ns j → k ≡ j
rows-one {n} {ls} {ns} v k j p q e = elim (dec_lt k j) [
  | yes h ↦ absurd (lt-ne name_order (name_row ls ns k) (name_row ls ns j) (up_lt name_order n (label_row ls ns) v.up k j h q) e)
  | no h ↦ elim (dec_lt j k) [
    | yes m ↦ absurd (lt-ne name_order (name_row ls ns j) (name_row ls ns k) (up_lt name_order n (label_row ls ns) v.up j k m p) (sym e))
    | no m ↦ omega arith
  ]
]

-- the number of an outcome, 0 where it is accepted
abbrev number_of : Outcome (Option Name) → ℕ
number_of (ok a) = 0
number_of (refused r) = r.number

-- where a row answers, the object is valid
pub row-valid : {c : Counts} {b : Buffers} {rule : Outcome (Option Name)} (k : ℕ) → OfObject c b rule (found b.labels b.names (Ok (Some k))) → Valid c b
row-valid k (too_short p e) = never cc
row-valid k (bad_object p n e) = never cc
row-valid k (on_object p v e) = v

-- of `rev_lookup_label`
pub found-once : (c : Counts) (b : Buffers) (a : ℕ) (r s : Result (O.Option ℕ) ObjectErr) → Reversed c b a r → Reversed c b a s → r ≡ s
found-once c b a r s x y = go r s x y (answered-once x.name y.name)
  where
    go : (r s : Result (O.Option ℕ) ObjectErr) → Reversed c b a r → Reversed c b a s → found b.labels b.names r ≡ found b.labels b.names s → r ≡ s
    go (Ok (Some k)) (Ok (Some j)) x y e =
        let q : name_row b.labels b.names k ≡ name_row b.labels b.names j = cc in
        ap (λ (m : ℕ). Ok (Some m)) (rows-one (row-valid k x.name).labels k j (x.row k refl) (y.row j refl) q)
    go (Ok (Some k)) (Ok None) x y e = never cc
    go (Ok (Some k)) (Err ShortBuffer) x y e = never cc
    go (Ok (Some k)) (Err BadObject) x y e = never cc
    go (Ok None) (Ok (Some j)) x y e = never cc
    go (Ok None) (Ok None) x y e = refl
    go (Ok None) (Err ShortBuffer) x y e = never cc
    go (Ok None) (Err BadObject) x y e = never cc
    go (Err ShortBuffer) (Ok (Some j)) x y e = never cc
    go (Err ShortBuffer) (Ok None) x y e = never cc
    go (Err ShortBuffer) (Err ShortBuffer) x y e = refl
    go (Err ShortBuffer) (Err BadObject) x y e = absurd (omega (arith, ap number_of e))
    go (Err BadObject) (Ok (Some j)) x y e = never cc
    go (Err BadObject) (Ok None) x y e = never cc
    go (Err BadObject) (Err ShortBuffer) x y e = absurd (omega (arith, ap number_of e))
    go (Err BadObject) (Err BadObject) x y e = refl
