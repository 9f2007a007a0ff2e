-- What a call accepts is a good object in its one layout; a refusal leaves all zero; two answers that the contract allows are equal. Assumes nothing.
use mathlib.Core.Path.{◌≡◌}
use mathlib.Core.List.{List}
use Prim.Native.Nat.{ℕ}
use Rattle.rules.specs.Base.{ok, refused, Refusal}
use Rattle.rules.specs.Objects.{Object, nothing}
use Rattle.rules.specs.Buffers.{Buffers, lent_words, layout}
use Rattle.rules.specs.Passes.{assemble}
use Rattle.laws_accepted.proofs.Accepted.{accepted-good, accepted-fits}
use Rattle.object_answer.specs.declared.Answer.{Answer}
use Rattle.object_answer.specs.Meant.{Leaves, AcceptedCall}
use Rattle.object_answer.proofs.Leaving.{called-accepts, accepted-left, left-once}
use Rattle.asm.specs.Call.{called, Assembled}

pub accepted-call : (b : Buffers) (s : List ℕ) (r : Answer) (b' : Buffers) (o : Object) → Assembled b s r b' → called b s ≡ ok o → AcceptedCall b r b' o
unfolding called
accepted-call b s r b' o h e =
    let c = called-accepts b (assemble (lent_words b.words b.marks) s) o e in
    let g = accepted-good (lent_words b.words b.marks) s o c.1 in
    let l : Leaves (ok o) b r b' = rw e at h in
    accepted-left b r b' o l g c.0 (accepted-fits (lent_words b.words b.marks) s o c.1)

pub refused-call : (b : Buffers) (s : List ℕ) (r : Answer) (b' : Buffers) (q : Refusal) → Assembled b s r b' → called b s ≡ refused q → b' ≡ layout nothing b
refused-call b s r b' q h e = let l : Leaves (refused q) b r b' = rw e at h in l.buffers

pub assembled-once : (b : Buffers) (s : List ℕ) (r t : Answer) (x y : Buffers) → Assembled b s r x → Assembled b s t y → (r ≡ t) × (x ≡ y)
assembled-once b s r t x y p q = left-once (called b s) b r t x y p q
