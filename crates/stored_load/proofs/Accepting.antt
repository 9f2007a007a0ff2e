-- What a call accepts is a good object in its one layout; a refusal leaves all zero; two answers that the contract allows are equal. Assumes nothing.
use mathlib.Core.Path.{◌≡◌, sym, ◌∙◌}
use mathlib.Core.Logic.{inl, inr}
use mathlib.Core.List.{List}
use Prim.Native.Nat.{ℕ, ◌≤◌, ◌<◌}
use native.Mathlib.Omega.{arith}
use native.Mathlib.Decide.{dec_le}
use Rattle.rules.specs.Base.{ok, refused, Refusal, refuse, nowhere, offset_at}
use Rattle.rules.specs.Objects.{Object, nothing, counts_of}
use Rattle.rules.specs.Buffers.{Buffers, lent_words, layout}
use Rattle.rules.specs.Stored.{check, load}
use Rattle.rules.proofs.Bools.{never}
use Rattle.laws_stored.specs.Beginnings.{AreBytes, ObjectOrFifty}
use Rattle.laws_stored.proofs.Promised.{checked-good}
use Rattle.laws_stored.proofs.Checking.{check-answers, load-fifty, load-whole, load-no-room}
use Rattle.object_answer.specs.declared.Answer.{Answer}
use Rattle.object_answer.specs.Meant.{Leaves, AcceptedCall}
use Rattle.object_answer.proofs.Leaving.{called-accepts, accepted-left, left-once}
use Rattle.stored_load.specs.Call.{called, Loaded}

-- what loading accepts, checking accepts, and its words fit
pub record Accepted (room : ℕ) (b : List ℕ) (o : Object) : Type 0 where
  pub checked : check b ≡ ok o
  pub fits : (counts_of o).words ≤ room

pub load-accepts : (room : ℕ) (b : List ℕ) (o : Object) → load room b ≡ ok o → Accepted room b o
load-accepts room b o e = go (check-answers b)
  where
    whole : (p : Object) → check b ≡ ok p → Dec ((counts_of p).words ≤ room) → Accepted room b o
    whole p q (yes h) =
        let u : ok p ≡ ok o = sym (load-whole room b p q h) ∙ e in
        let z : p ≡ o = cc in
        rw (← z) (record { checked = q; fits = h })
    whole p q (no h) = let u : refuse 41 nowhere ≡ ok o = sym (load-no-room room b p q (omega arith)) ∙ e in never cc

    go : ObjectOrFifty b (check b) → Accepted room b o
    go (inl (p, q)) = whole p q (dec_le (counts_of p).words room)
    go (inr (k, l, q)) = let u : refuse 50 (offset_at k) ≡ ok o = sym (load-fifty room b k q) ∙ e in never cc

-- what loading refuses, it refuses with 50 or 41
pub load-numbers : (room : ℕ) (b : List ℕ) (q : Refusal) → load room b ≡ refused q → (0 < q.number) × (q.number < 100)
load-numbers room b q e = go (check-answers b)
  where
    within : (n : ℕ) → q.number ≡ n → 0 < n → n < 100 → (0 < q.number) × (q.number < 100)
    within n k l h = (omega arith, omega arith)

    whole : (p : Object) → check b ≡ ok p → Dec ((counts_of p).words ≤ room) → (0 < q.number) × (q.number < 100)
    whole p c (yes h) = let u : ok p ≡ refused q = sym (load-whole room b p c h) ∙ e in never cc
    whole p c (no h) = let u : refuse 41 nowhere ≡ refused q = sym (load-no-room room b p c (omega arith)) ∙ e in within 41 (cc) (omega arith) (omega arith)

    go : ObjectOrFifty b (check b) → (0 < q.number) × (q.number < 100)
    go (inl (p, c)) = whole p c (dec_le (counts_of p).words room)
    go (inr (k, l, c)) = let u : refuse 50 (offset_at k) ≡ refused q = sym (load-fifty room b k c) ∙ e in within 50 (cc) (omega arith) (omega arith)

-- ACCEPTED: the numbers of a buffer of bytes are below 256
pub accepted-call : (out : Buffers) (b : List ℕ) (r : Answer) (out' : Buffers) (o : Object) → AreBytes b → Loaded out b r out' → called out b ≡ ok o → AcceptedCall out r out' o
unfolding called
accepted-call out b r out' o v h e =
    let c = called-accepts out (load (lent_words out.words out.marks) b) o e in
    let a = load-accepts (lent_words out.words out.marks) b o c.1 in
    let l : Leaves (ok o) out r out' = rw e at h in
    accepted-left out r out' o l (checked-good b o v a.checked) c.0 a.fits

-- REFUSED
pub refused-call : (out : Buffers) (b : List ℕ) (r : Answer) (out' : Buffers) (q : Refusal) → Loaded out b r out' → called out b ≡ refused q → out' ≡ layout nothing out
refused-call out b r out' q h e = let l : Leaves (refused q) out r out' = rw e at h in l.buffers

-- ONE ANSWER
pub loaded-once : (out : Buffers) (b : List ℕ) (r t : Answer) (x y : Buffers) → Loaded out b r x → Loaded out b t y → (r ≡ t) × (x ≡ y)
loaded-once out b r t x y p q = left-once (called out b) out r t x y p q
