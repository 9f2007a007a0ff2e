-- A listing and an answer held to what is asked, and the buffers that are lent for it. Assumes nothing.
use Rattle.std.specs.declared.result.Result.{Result}
use Rattle.std.specs.declared.result.Result.TheVariants.{Ok, Err}
use Prim.Native.Nat.{ℕ, zero, suc, ◌-◌, ◌≤◌, ◌<◌}
use mathlib.Core.Path.{◌≡◌, refl, sym, ◌∙◌, ap, subst}
use mathlib.Core.Bool.{Bool, true, false, ◌&&◌}
use mathlib.Core.List.{List, ◌∷◌}
use native.Mathlib.Omega.{arith}
use borrow.Author.Tests.{le-leb, lt-leb}
use lib.Dec.{eqb}
use lib.ListN.{length, take, length-append}
use lib.Seq.{take-append_seam}
use Rattle.rules.specs.Base.{when◌then◌else◌, Outcome, ok, refused, same}
use Rattle.rules.specs.Buffers.{Buffers, six, view, lay, zeros}
use Rattle.rules.specs.Calls.{OfObject, left_bytes}
use Rattle.rules.specs.Listing.{list}
use Rattle.object.specs.Meaning.{counts}
use Rattle.object.specs.declared.Counts.{Counts}
use Rattle.object_answer.specs.declared.Answer.{Answer}
use Rattle.object_answer.specs.Meant.{counts_in}
use Rattle.object_answer.specs.Writes.{coded}
use Rattle.list.specs.Call.{Called}
use Rattle.test_support.specs.Sources.{unhexed}
use Rattle.test_replay.specs.declared.Lacking.{Lacking}
use Rattle.test_replay.specs.Asked.{same_answer}
use Rattle.test_replay.specs.Replayed.{listed_as, held_to, Listed, AsAsked, other, refusal, object, Replays, lent_to}

-- THE LISTING
module _ (x : Result ℕ ℕ) (text digits : List ℕ) where
  pub held_bytes : {r : Bool} (n : ℕ) → x ≡ Ok n → n ≤ length text → r ≡ same (take (n - 0) text) (unhexed digits) → r ≡ held_to x text digits
  unfolding held_to when◌then◌else◌
  held_bytes n q h e = let z : n - 0 ≡ n = omega arith in rw (q, held_to, le-leb n (length text) h) (e ∙ ap (λ (k : ℕ). same (take k text) (unhexed digits)) z)

  pub held-long : (n : ℕ) → x ≡ Ok n → length text < n → false ≡ held_to x text digits
  unfolding held_to when◌then◌else◌
  held-long n q h = rw (q, held_to, lt-leb n (length text) h) refl

  pub held-refused : (k : ℕ) → x ≡ Err k → (eqb k 51 && eqb (length digits) 0) ≡ held_to x text digits
  unfolding held_to
  held-refused k q = rw (q, held_to) refl

held-coded : (o : Outcome (List ℕ)) (len : ℕ) (digits : List ℕ) → held_to (coded o) (left_bytes o len) digits ≡ listed_as o digits
unfolding held_to listed_as when◌then◌else◌
held-coded (ok l) len digits =
    let h : length l ≤ length (lay l len) = omega (arith, length-append l (zeros (len - length l))) in
    rw (le-leb (length l) (length (lay l len)) h, take-append_seam l (zeros (len - length l))) refl
held-coded (refused r) len digits = refl

pub listed-is : (c : Counts) (b : Buffers) {len : ℕ} {r : Result ℕ ℕ} {text digits : List ℕ} {v : Bool} → len ≡ 399 → Called (counts c) b len r text → v ≡ held_to r text digits → Listed c b digits v
listed-is c b {len} {r} {text} {digits} {v} e h q =
    let a : held_to r text digits ≡ held_to (coded h.outcome) (left_bytes h.outcome len) digits = rw (h.whole.answer, h.whole.buffer) refl in
    record {
      outcome = h.outcome;
      lent = subst (λ (n : ℕ). OfObject (counts c) b (list n (view (counts c) b)) h.outcome) e h.lent;
      is = q ∙ (a ∙ held-coded h.outcome len digits);
    }

-- THE ANSWER
module _ (got asked : Answer) (digits : List ℕ) (b : Buffers) {s : Bool} (q : s ≡ same_answer got asked) where
  pub asked-other : s ≡ false → AsAsked got asked digits b false
  asked-other h = other (sym q ∙ h) refl

  pub asked-refusal : s ≡ true → (got.number ≡ 0 → ⊥) → AsAsked got asked digits b true
  asked-refusal h n = refusal (sym q ∙ h) n refl

  pub asked-object : {v : Bool} (d : Counts) → s ≡ true → got.number ≡ 0 → d ≡ counts_in got → Listed d b digits v → AsAsked got asked digits b v
  asked-object {v} d h n k l = object (sym q ∙ h) n (subst (λ (x : Counts). Listed x b digits v) k l)

-- THE BUFFERS
take-zeros : (b n : ℕ) → b ≤ n → take b (zeros n) ≡ zeros b
take-zeros zero n h = refl
take-zeros (suc b) zero h = absurd (omega arith)
take-zeros (suc b) (suc n) h = ap (λ (l : List ℕ). 0 ∷ l) (take-zeros b n (omega arith))

cut : (n k b : ℕ) → (b ≡ n - k) × (b ≤ n) → take (b - 0) (zeros n) ≡ zeros (n - k)
cut n k b h = let z : b - 0 ≡ b = omega arith in ap (λ (i : ℕ). take i (zeros n)) z ∙ (take-zeros b n h.1 ∙ ap (λ (i : ℕ). zeros i) h.0)

pub replays-cut :
    (l : Lacking) {b w m a r n : ℕ} {src digits : List ℕ} {asked : Answer} {v : Bool}
    → (b ≡ 128 - l.blocks) × (b ≤ 128) → (w ≡ 65024 - l.words) × (w ≤ 65024) → (m ≡ 65024 - l.marks) × (m ≤ 65024) → (a ≡ 4096 - l.labels) × (a ≤ 4096) → (r ≡ 2048 - l.relocations) × (r ≤ 2048) → (n ≡ 65536 - l.names) × (n ≤ 65536)
    → Replays (six (take (b - 0) (zeros 128)) (take (w - 0) (zeros 65024)) (take (m - 0) (zeros 65024)) (take (a - 0) (zeros 4096)) (take (r - 0) (zeros 2048)) (take (n - 0) (zeros 65536))) src asked digits v
    → Replays (lent_to l) src asked digits v
unfolding lent_to
replays-cut l {b} {w} {m} {a} {r} {n} {src} {digits} {asked} {v} p q s t u x h =
    let c1 = cut 128 l.blocks b p in
    let c2 = cut 65024 l.words w q in
    let c3 = cut 65024 l.marks m s in
    let c4 = cut 4096 l.labels a t in
    let c5 = cut 2048 l.relocations r u in
    let c6 = cut 65536 l.names n x in
    subst (λ (y : Buffers). Replays y src asked digits v) (λ i. six (c1 i) (c2 i) (c3 i) (c4 i) (c5 i) (c6 i)) h
