-- A call that writes a lent object as bytes, by what the check of the object says. Assumes nothing.
use Prim.Native.Nat.{ℕ}
use mathlib.Core.Path.{◌≡◌, refl, sym, ◌∙◌, ap}
use mathlib.Core.List.{List}
use lib.ListN.{length, length-replicate}
use Rattle.rules.specs.Base.{Outcome, ok, refuse, nowhere}
use Rattle.rules.specs.Objects.{Counts, Object}
use Rattle.rules.specs.Buffers.{Buffers, view, zeros}
use Rattle.rules.specs.Calls.{OfObject}
use Rattle.rules.proofs.Rows.{lay-nil}
use Rattle.object_answer.specs.Writes.{Whole, Writes}
use Rattle.object_check.specs.Checked.{outcome}
use Rattle.std.specs.declared.result.Result.{Result}
use Rattle.std.specs.declared.result.Result.TheVariants.{Ok, Err}
use Rattle.object_check.specs.declared.ObjectErr.{ObjectErr}
use Rattle.object_check.specs.declared.ObjectErr.TheVariants as unfit
use Rattle.object_check.proofs.Whole.{goes_on, refuses-short, refuses-bad}

pub zeros-still : (z : List ℕ) (len : ℕ) → z ≡ zeros len → z ≡ zeros (length z)
zeros-still z len e = let n : length z ≡ len = ap length e ∙ length-replicate len 0 in rw n e

module _ (rule : ℕ → Object → Outcome (List ℕ)) (c : Counts) (b : Buffers) (k : Result (Unit {0}) ObjectErr) (l : OfObject c b (ok (tt {0})) (outcome k)) where
  pub writes-object : (len : ℕ) (z : List ℕ) (r : Result ℕ ℕ) (out : List ℕ) → k ≡ Ok tt → z ≡ zeros len → Whole (rule (length z) (view c b)) (length z) r out → Writes rule c b len r out
  writes-object len z r out e q h =
      let n : length z ≡ len = ap length q ∙ length-replicate len 0 in
      let w : Whole (rule len (view c b)) len r out = rw n at h in
      record { outcome = rule len (view c b); lent = goes_on k l e refl; whole = w }

  pub writes_short : (len : ℕ) (out : List ℕ) → k ≡ Err unfit.ShortBuffer → out ≡ zeros len → Writes rule c b len (Err 42) out
  writes_short len out e z = record { outcome = refuse 42 nowhere; lent = refuses-short k l e refl; whole = record { answer = refl; buffer = z ∙ sym (lay-nil len) } }

  pub writes-bad : (len : ℕ) (out : List ℕ) → k ≡ Err unfit.BadObject → out ≡ zeros len → Writes rule c b len (Err 43) out
  writes-bad len out e z = record { outcome = refuse 43 nowhere; lent = refuses-bad k l e refl; whole = record { answer = refl; buffer = z ∙ sym (lay-nil len) } }
