-- What a call that makes an object answers and leaves: on acceptance a good object in its one layout, on refusal all zero, and one answer only. Assumes nothing.
use mathlib.Core.Path.{◌≡◌, refl, sym, ◌∙◌, ap}
use mathlib.Core.Bool.{Bool, true, false}
use Prim.Native.Nat.{ℕ, ◌≤◌}
use Rattle.rules.specs.Base.{when◌then◌else◌, Outcome, ok, refuse, refuse2, nowhere, span}
use Rattle.rules.specs.Answers.{answer}
use Rattle.rules.specs.Objects.{Object, nothing, counts_of, Good}
use Rattle.rules.specs.Buffers.{Buffers, short, lent_words, layout}
use Rattle.rules.specs.Calls.{of_bytes}
use Rattle.rules.proofs.Bools.{never}
use Rattle.rules.proofs.Fits.{layout-valid}
use Rattle.object_answer.specs.declared.Answer.{Answer}
use Rattle.object_answer.specs.Meant.{meant, refusing, Leaves, AcceptedCall}

pub leaves-refused : (n a e b f : ℕ) (p q : Buffers) → q ≡ layout nothing p → (r : Answer) → r ≡ refusing n a e b f → Leaves (refuse2 n (span a e) (span b f)) p r q
unfolding answer
leaves-refused n a e b f p q h r k = record { answer = ap meant k; buffers = h }

pub accepted-left : (b : Buffers) (r : Answer) (b' : Buffers) (o : Object) → Leaves (ok o) b r b' → Good o → short b ≡ false → (counts_of o).words ≤ lent_words b.words b.marks → AcceptedCall b r b' o
unfolding answer
accepted-left b r b' o l g s w = record { good = g; laid = l.buffers; counts = l.answer; valid = rw l.buffers (layout-valid o b g s w) }

-- what a call that is lent bytes accepts, its rule accepts, in buffers that are long enough
pub called-accepts : {A : Type 0} (b : Buffers) (rule : Outcome A) (o : A) → of_bytes b rule ≡ ok o → (short b ≡ false) × (rule ≡ ok o)
unfolding of_bytes when◌then◌else◌
called-accepts b rule o e = go (short b) refl e
  where
    go : (t : Bool) → short b ≡ t → (when t then refuse 42 nowhere else rule) ≡ ok o → (short b ≡ false) × (rule ≡ ok o)
    go true q x = never cc
    go false q x = (q, x)

-- one answer
pub meant-once : (r t : Answer) → meant r ≡ meant t → r ≡ t
meant-once r t e = λ i. record {
  number = (e i).number;
  start = (e i).first.start;
  end = (e i).first.stop;
  start2 = (e i).second.start;
  end2 = (e i).second.stop;
  blocks = (e i).counts.blocks;
  words = (e i).counts.words;
  labels = (e i).counts.labels;
  relocations = (e i).counts.relocs;
}

pub left-once : (o : Outcome Object) (b : Buffers) (r t : Answer) (x y : Buffers) → Leaves o b r x → Leaves o b t y → (r ≡ t) × (x ≡ y)
left-once o b r t x y p q = (meant-once r t (p.answer ∙ sym q.answer), p.buffers ∙ sym q.buffers)
