-- A listing that fits is written whole; an answer tells its object or its refusal. Assumes nothing.
use Rattle.std.specs.declared.result.Result.{Result}
use Rattle.std.specs.declared.result.Result.TheVariants.{Ok, Err}
use Prim.Native.Nat.{ℕ, ◌≤◌}
use mathlib.Core.Path.{◌≡◌, sym, ◌∙◌, ap, subst}
use mathlib.Core.Bool.{false}
use mathlib.Core.List.{List}
use native.Mathlib.Omega.{arith}
use borrow.Author.Tests.{eq-eqb, ne_eqb, le-leb}
use lib.ListN.{length}
use Rattle.rules.specs.Base.{when◌then◌else◌, Outcome, ok, refuse, nowhere}
use Rattle.rules.specs.Answers.{answer}
use Rattle.rules.specs.Objects.{Counts}
use Rattle.rules.specs.Buffers.{Buffers, short, view, Valid}
use Rattle.rules.specs.Calls.{OfObject, too_short, bad_object, on_object}
use Rattle.rules.specs.Listing.{listing, list, printed}
use Rattle.rules.proofs.Bools.{never}
use Rattle.rules.proofs.Rows.{length-lay}
use Rattle.object_answer.specs.declared.Answer.{Answer}
use Rattle.object_answer.specs.Meant.{counts_in}
use Rattle.object_answer.specs.Writes.{Whole}
use Rattle.list.specs.Call.{Called}
use Rattle.object.specs.Meaning.{counts}
use Rattle.object.specs.declared.Counts as code
use Rattle.list_print.specs.Program.{Wrote, tells, Tellable}

-- A LISTING THAT FITS
module _ (c : Counts) (b : Buffers) (len : ℕ) (v : Valid c b) (s : short b ≡ false) (f : length (listing (view c b)) ≤ len) (r : Result ℕ ℕ) (out : List ℕ) (h : Called c b len r out) where
  lists : list len (view c b) ≡ ok (listing (view c b))
  unfolding list
  lists = rw (le-leb (length (listing (view c b))) len f)

  outcome-is : (o : Outcome (List ℕ)) → OfObject c b (list len (view c b)) o → o ≡ ok (listing (view c b))
  outcome-is o (too_short t e) = never cc
  outcome-is o (bad_object t x e) = absurd (x v)
  outcome-is o (on_object t x e) = e ∙ lists

  whole_is : Whole (ok (listing (view c b))) len r out
  whole_is = rw (outcome-is h.outcome h.lent) at h.whole

  pub object-bytes : (n : ℕ) → r ≡ Ok n → Wrote (listing (view c b)) len n out
  object-bytes n e =
      let w = whole_is in
      let a : r ≡ Ok (length (listing (view c b))) = w.answer in
      let k : n ≡ length (listing (view c b)) = cc in
      let m : length out ≡ len = ap length w.buffer ∙ length-lay (listing (view c b)) len f in
      record { count = k; here = w.buffer; room = omega (arith, k, m, f) }

  pub object-refused : (n k : ℕ) → r ≡ Err n → Wrote (listing (view c b)) len k out
  object-refused n k e =
      let w = whole_is in
      let a : r ≡ Ok (length (listing (view c b))) = w.answer in
      never cc

-- AN ANSWER
module _ (a : Answer) (b : Buffers) (len : ℕ) where
  module _ (e : a.number ≡ 0) (d : code.Counts) (k : d ≡ counts_in a) where
    module _ (t : Tellable a b len) where
      pub answer-valid : Valid (counts d) b
      answer-valid = subst (λ (x : code.Counts). Valid (counts x) b) (sym k) (t.valid e)

      pub answer-fits : length (listing (view (counts d) b)) ≤ len
      answer-fits = subst (λ (x : code.Counts). length (listing (view (counts x) b)) ≤ len) (sym k) (t.fits e)

    pub tells-object : (r : ℕ) (out : List ℕ) → Wrote (listing (view (counts d) b)) len r out → Wrote (tells a b) len r out
    unfolding tells when◌then◌else◌
    tells-object r out w = rw (eq-eqb a.number 0 e) (subst (λ (x : code.Counts). Wrote (listing (view (counts x) b)) len r out) k w)

  pub tells-refused : (r : ℕ) (out : List ℕ) → (a.number ≡ 0 → ⊥) → Wrote (printed (refuse a.number nowhere)) len r out → Wrote (tells a b) len r out
  unfolding tells when◌then◌else◌
  tells-refused r out e w = rw (ne_eqb a.number 0 e) w
