-- What the two ways through a link answer and leave. Assumes nothing.
use Rattle.std.specs.declared.result.Result.{Result}
use Rattle.std.specs.declared.result.Result.TheVariants.{Ok, Err}
use Rattle.base_refusals.specs.declared.Fault.{Fault}
use Rattle.base_refusals.specs.Refusals.{fault}
use mathlib.Core.Path.{◌≡◌, sym, ◌∙◌, ap}
use mathlib.Core.Bool.{Bool, ◌||◌}
use mathlib.Core.List.{List}
use Prim.Native.Nat.{ℕ}
use Rattle.rules.specs.Base.{Outcome, ok, Refusal, refused, refuse, span}
use Rattle.rules.specs.Answers as rule
use Rattle.rules.specs.Objects as Objects
use Rattle.rules.specs.Objects.{Object, nothing}
use Rattle.rules.specs.Buffers.{Buffers, short, lent_words, view, layout, Valid}
use Rattle.rules.specs.Calls.{Answered, too_short, bad_object, on_object}
use Rattle.rules.specs.Linking.{union, link}
use Rattle.rules.proofs.Bools.{never}
use Rattle.object.specs.declared.Counts.{Counts}
use Rattle.object.specs.Meaning.{counts}
use Rattle.object_answer.specs.declared.Answer.{Answer}
use Rattle.object_answer.specs.Meant.{meant, accepting, refusing}
use Rattle.object_answer.proofs.Leaving.{leaves-refused}
use Rattle.link_decide.specs.Decided.{said, counted, Decided}
use Rattle.link.specs.Call.{Outcomes, Linked}
use Rattle.link.proofs.Ready.{LinkReady}

-- A REFUSAL

-- what refuses with counts refuses with an object
abbrev again : Outcome Objects.Counts → Outcome Object
again (ok c) = ok nothing
again (refused r) = refused r

counted_back : (o : Outcome Object) (w : Refusal) → refused w ≡ counted o → refused w ≡ o
counted_back (ok p) w e = never cc
counted_back (refused r) w e = ap again e

module _ (c : Counts) (b : Buffers) (d : Counts) (e : Buffers) (out : Buffers) (small : Bool) (room : ℕ) (r : Result Counts Fault) (xs ys : List ℕ) (n a f : ℕ)
    (p : small ≡ short out) (q : room ≡ lent_words out.words out.marks) (D : Decided (counts c) b (counts d) e small room r xs ys) (z : r ≡ Err (fault n a f)) where
  refused-is : Outcomes (counts c) b (counts d) e out (refuse n (span a f))
  refused-is = go D.answer
    where
      go : Answered (short b || short e || small) (Valid (counts c) b × Valid (counts d) e) (counted (link room (view (counts c) b) (view (counts d) e))) (said r)
          → Outcomes (counts c) b (counts d) e out (refuse n (span a f))
      go (too_short x y) = too_short (rw p at x) (ap again (sym (ap said z) ∙ y))
      go (bad_object x v y) = bad_object (rw p at x) v (ap again (sym (ap said z) ∙ y))
      go (on_object x v y) =
          on_object (rw p at x) v
          (counted_back (link room (view (counts c) b) (view (counts d) e)) _ (sym (ap said z) ∙ y) ∙ ap (λ (w : ℕ). link w (view (counts c) b) (view (counts d) e)) q)

  pub linked-refused : (out' : Buffers) → out' ≡ layout nothing out → (t : Answer) → t ≡ refusing n a f 0 0 → Linked (counts c) b (counts d) e out t out'
  linked-refused out' l t k = record { outcome = refuse n (span a f); is = refused-is; leaves = leaves-refused n a f 0 0 out out' l t k }

-- A LINK

module _ {c : Counts} {b : Buffers} {d : Counts} {e : Buffers} {out : Buffers} {k : Counts} {xs ys : List ℕ} (L : LinkReady c b d e out k xs ys) where
  pub linked-made : (t : Answer) (out' : Buffers) → t ≡ accepting k → out' ≡ layout (union (view (counts c) b) (view (counts d) e)) out → Linked (counts c) b (counts d) e out t out'
  unfolding rule.answer
  linked-made t out' q l = record {
    outcome = ok (union (view (counts c) b) (view (counts d) e));
    is = on_object L.all-wide (L.first, L.second) (sym L.made);
    leaves = record { answer = ap meant q ∙ ap rule.accepted (sym L.sums); buffers = l };
  }
