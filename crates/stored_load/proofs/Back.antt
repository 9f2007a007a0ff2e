-- What `store` wrote, loaded again: the object that was stored. Assumes nothing.
use Rattle.std.specs.declared.result.Result.TheVariants.{Ok, Err}
use mathlib.Core.Path.{◌≡◌, refl, ◌∙◌, ap}
use mathlib.Core.Bool.{Bool, true, false}
use mathlib.Core.List.{List}
use Prim.Native.Nat.{ℕ, ◌-◌, ◌≤◌, ◌<◌}
use native.Mathlib.Omega.{arith}
use lib.Dec.{leb}
use lib.ListN.{length, take, get_or}
use lib.Seq.{take-append_seam}
use Rattle.rules.specs.Base.{when◌then◌else◌, ok, refuse, nowhere}
use Rattle.rules.specs.Objects.{Counts, counts_of}
use Rattle.rules.specs.Buffers.{Buffers, short, lent_words, view, Valid, zeros}
use Rattle.rules.specs.Stored.{stored, store, check, load}
use Rattle.rules.specs.Calls.{OfObject, of_bytes, too_short, bad_object, on_object}
use Rattle.rules.proofs.Bools.{never}
use Rattle.rules.proofs.Sound.{valid-good, valid-counts}
use Rattle.laws_stored.proofs.Promised.{stored-checks}
use Rattle.laws_stored.proofs.Checking.{load-whole}
use Rattle.object_answer.specs.Writes.{Whole, Writes}
use Rattle.object_answer.specs.declared.Answer.{Answer}
use Rattle.object_answer.specs.Meant.{Leaves, AcceptedCall}
use Rattle.object_answer.proofs.Leaving.{accepted-left}
use Rattle.stored_load.specs.Call.{called, Loaded}

-- what was written: the bytes of a valid object
record WasStored (c : Counts) (b : Buffers) (n : ℕ) (x : List ℕ) : Type 0 where
  valid : Valid c b
  bytes : take n x ≡ stored (view c b)

was-stored : (c : Counts) (b : Buffers) (len n : ℕ) (x : List ℕ) → Writes store c b len (Ok n) x → WasStored c b n x
unfolding store
was-stored c b len n x p = go p.lent
  where
    there : Valid c b → (t : Bool) → leb (length (stored (view c b))) len ≡ t → p.outcome ≡ store len (view c b) → WasStored c b n x
    there v true l e =
        let o : p.outcome ≡ ok (stored (view c b)) = e ∙ rw l refl in
        let w : Whole (ok (stored (view c b))) len (Ok n) x = rw o at p.whole in
        let m : n ≡ length (stored (view c b)) = cc in
        record { valid = v; bytes = rw (w.buffer, m) (take-append_seam (stored (view c b)) (zeros (len - length (stored (view c b))))) }
    there v false l e =
        let o : p.outcome ≡ refuse 51 nowhere = e ∙ rw l refl in
        let w : Whole (refuse 51 nowhere) len (Ok n) x = rw o at p.whole in
        let z : Ok n ≡ Err 51 = w.answer in
        never cc

    go : OfObject c b (store len (view c b)) p.outcome → WasStored c b n x
    go (too_short q e) = let w : Whole (refuse 42 nowhere) len (Ok n) x = rw e at p.whole in (let z : Ok n ≡ Err 42 = w.answer in never cc)
    go (bad_object q r e) = let w : Whole (refuse 43 nowhere) len (Ok n) x = rw e at p.whole in (let z : Ok n ≡ Err 43 = w.answer in never cc)
    go (on_object q v e) = there v (leb (length (stored (view c b))) len) refl e

-- into buffers that are long enough, it is the object in its one layout
pub stored-loads : (c : Counts) (b : Buffers) (len n : ℕ) (x : List ℕ) (out : Buffers) (r : Answer) (y : Buffers) → Writes store c b len (Ok n) x → ((i : ℕ) → get_or b.words i 0 < 65536)
    → short out ≡ false → c.words ≤ lent_words out.words out.marks → Loaded out (take n x) r y → AcceptedCall out r y (view c b)
unfolding called of_bytes when◌then◌else◌
stored-loads c b len n x out r y p low full room l =
    let s = was-stored c b len n x p in
    let g = valid-good c b s.valid low in
    let k : (counts_of (view c b)).words ≡ c.words = ap (λ (t : Counts). t.words) (valid-counts c b s.valid) in
    let f : (counts_of (view c b)).words ≤ lent_words out.words out.marks = omega (arith, k, room) in
    let e : load (lent_words out.words out.marks) (take n x) ≡ ok (view c b) =
    load-whole (lent_words out.words out.marks) (take n x) (view c b) (ap check s.bytes ∙ stored-checks (view c b) g) f in
    let o : called out (take n x) ≡ ok (view c b) = rw full e in
    let h : Leaves (ok (view c b)) out r y = rw o at l in
    accepted-left out r y (view c b) h g full f
