-- The four checks together. Assumes nothing.
use mathlib.Core.Path.{◌≡◌, refl}
use mathlib.Core.Bool.{Bool, true, false}
use mathlib.Core.List.{List}
use Prim.Native.Nat.{ℕ}
use Rattle.rules.specs.Base.{Outcome, ok, refuse, nowhere}
use Rattle.rules.specs.Objects.{Counts}
use Rattle.rules.specs.Buffers.{Buffers, short, BlocksOk, WordsOk, LabelsOk, RelocsOk, Valid}
use Rattle.rules.proofs.Bools.{never}
use Rattle.object.specs.Decides.{Decides, decides_no}
use Rattle.rules.specs.Calls.{OfObject, too_short, bad_object, on_object}
use Rattle.object_check_relocations.specs.Ground.{Ground}
use Rattle.object_check.specs.Checked.{outcome, outcome-one}
use Rattle.std.specs.declared.result.Result.{Result}
use Rattle.std.specs.declared.result.Result.TheVariants.{Ok, Err}
use Rattle.object_check.specs.declared.ObjectErr.{ObjectErr}
use Rattle.object_check.specs.declared.ObjectErr.TheVariants.{ShortBuffer, BadObject}

module _ {c : Counts} {b : Buffers} {r : Bool} where
  pub no_blocks : Decides (BlocksOk c.blocks c.words b.blocks) r → r ≡ false → Decides (Valid c b) false
  no_blocks d e = decides_no (λ v. d.no e v.blocks)

  pub no_words : Decides (WordsOk c.words b.words b.marks) r → r ≡ false → Decides (Valid c b) false
  no_words d e = decides_no (λ v. d.no e v.words)

  pub no-labels : Decides (LabelsOk c.labels b.labels b.names) r → r ≡ false → Decides (Valid c b) false
  no-labels d e = decides_no (λ v. d.no e v.labels)

  pub all_but : {s t u : Bool} → Decides (BlocksOk c.blocks c.words b.blocks) r → r ≡ true → Decides (WordsOk c.words b.words b.marks) s → s ≡ true
      → Decides (LabelsOk c.labels b.labels b.names) t → t ≡ true
      → Decides (RelocsOk c.relocs c.blocks c.words c.labels b.blocks b.words b.marks b.labels b.relocs) u → Decides (Valid c b) u
  all_but p x q y l z d = record {
    yes = λ e. record { blocks = p.yes x; words = q.yes y; labels = l.yes z; relocs = d.yes e };
    no = λ e v. d.no e v.relocs;
  }

pub grounds : {nb w m : ℕ} {bs ws ms ls ns : List ℕ} {r s t : Bool} → Decides (BlocksOk nb w bs) r → r ≡ true → Decides (WordsOk w ws ms) s → s ≡ true
    → Decides (LabelsOk m ls ns) t → t ≡ true → Ground nb w m bs ws ms ls
grounds p x q y l z = record { blocks = p.yes x; words = q.yes y; labels = (l.yes z).room }

-- 42, then 43
module _ (c : Counts) (b : Buffers) {t : Bool} (e : t ≡ short b) where
  pub is-short : t ≡ true → OfObject c b (ok tt) (outcome (Err ShortBuffer))
  is-short q = too_short (rw e at q) refl

  module _ {r : Bool} (d : Decides (Valid c b) r) (n : t ≡ false) where
    pub is-good : r ≡ true → OfObject c b (ok tt) (outcome (Ok tt))
    is-good q = on_object (rw e at n) (d.yes q) refl

    pub is-bad : r ≡ false → OfObject c b (ok tt) (outcome (Err BadObject))
    is-bad q = bad_object (rw e at n) (d.no q) refl

-- WHAT A CALL LEARNS FROM THE CHECK

module _ {c : Counts} {b : Buffers} (r : Result (Unit {0}) ObjectErr) (l : OfObject c b (ok tt) (outcome r)) where
  pub checked-valid : r ≡ Ok tt → Valid c b
  checked-valid q = go l
    where
      go : OfObject c b (ok tt) (outcome r) → Valid c b
      go (too_short p e) = never (cc (outcome-one r (Err ShortBuffer) e))
      go (bad_object p n e) = never (cc (outcome-one r (Err BadObject) e))
      go (on_object p v e) = v

  pub checked-long : r ≡ Ok tt → short b ≡ false
  checked-long q = go l
    where
      go : OfObject c b (ok tt) (outcome r) → short b ≡ false
      go (too_short p e) = never (cc (outcome-one r (Err ShortBuffer) e))
      go (bad_object p n e) = p
      go (on_object p v e) = p

  pub checked-short : r ≡ Err ShortBuffer → short b ≡ true
  checked-short q = go l
    where
      go : OfObject c b (ok tt) (outcome r) → short b ≡ true
      go (too_short p e) = p
      go (bad_object p n e) = never (cc (outcome-one r (Err BadObject) e))
      go (on_object p v e) = never (cc (outcome-one r (Ok tt) e))

  pub checked-wide : r ≡ Err BadObject → short b ≡ false
  checked-wide q = go l
    where
      go : OfObject c b (ok tt) (outcome r) → short b ≡ false
      go (too_short p e) = never (cc (outcome-one r (Err ShortBuffer) e))
      go (bad_object p n e) = p
      go (on_object p v e) = p

  pub checked-bad : r ≡ Err BadObject → Valid c b → ⊥
  checked-bad q = go l
    where
      go : OfObject c b (ok tt) (outcome r) → Valid c b → ⊥
      go (too_short p e) = never (cc (outcome-one r (Err ShortBuffer) e))
      go (bad_object p n e) = n
      go (on_object p v e) = never (cc (outcome-one r (Ok tt) e))

  -- a call that goes on with the object, and one that hands on the refusal
  pub goes_on : {A : Type 0} {rule x : Outcome A} → r ≡ Ok tt → x ≡ rule → OfObject c b rule x
  goes_on q e = on_object (checked-long q) (checked-valid q) e

  pub refuses-short : {A : Type 0} {rule x : Outcome A} → r ≡ Err ShortBuffer → x ≡ refuse 42 nowhere → OfObject c b rule x
  refuses-short {A} {rule} {x} q d = go l
    where
      go : OfObject c b (ok tt) (outcome r) → OfObject c b rule x
      go (too_short p e) = too_short p d
      go (bad_object p n e) = never (cc (outcome-one r (Err BadObject) e))
      go (on_object p v e) = never (cc (outcome-one r (Ok tt) e))

  pub refuses-bad : {A : Type 0} {rule x : Outcome A} → r ≡ Err BadObject → x ≡ refuse 43 nowhere → OfObject c b rule x
  refuses-bad {A} {rule} {x} q d = go l
    where
      go : OfObject c b (ok tt) (outcome r) → OfObject c b rule x
      go (too_short p e) = never (cc (outcome-one r (Err ShortBuffer) e))
      go (bad_object p n e) = bad_object p n d
      go (on_object p v e) = never (cc (outcome-one r (Ok tt) e))
