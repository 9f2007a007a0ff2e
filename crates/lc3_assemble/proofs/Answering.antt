-- What assembling makes in buffers of full size, and how it is answered when that is stored. Assumes nothing.
use Prim.Native.Nat.{ℕ}
use Rattle.std.specs.declared.result.Result.{Result}
use Rattle.std.specs.declared.result.Result.TheVariants.{Ok, Err}
use mathlib.Core.Path.{◌≡◌, refl, ◌∙◌, ap}
use mathlib.Core.Bool.{Bool, true, false}
use mathlib.Core.List.{List}
use native.Mathlib.Omega.{arith}
use lib.Dec.{leb}
use lib.ListN.{length}
use Rattle.rules.specs.Base.{when◌then◌else◌, Outcome, ok, refused, Refusal, require, nowhere, ◌>>=◌, ◌>>◌}
use Rattle.rules.specs.Answers.{answer}
use Rattle.rules.specs.Objects.{Object}
use Rattle.rules.specs.Buffers.{Buffers, lent_words, lay_words, lay_marks}
use Rattle.rules.specs.Calls.{of_bytes}
use Rattle.rules.specs.Passes.{assemble}
use Rattle.rules.specs.Stored.{stored, store}
use Rattle.laws_numbers.proofs.Bounds.{known-within}
use Rattle.laws_numbers.proofs.Passes.{assembling-numbered}
use Rattle.object_answer.specs.declared.Answer.{Answer}
use Rattle.object_answer.specs.Meant.{refusing, Leaves}
use Rattle.object_answer.specs.Writes as Writes
use Rattle.asm.specs.Call as Call
use Rattle.asm.proofs.Accepting.{accepted-call}
use Rattle.stored.specs.Call.{MadeStored}
use Rattle.stored.proofs.Made.{lending, lending-long, Makes, made-whole}
use Rattle.lc3_assemble.specs.Assembled.{assemble_stored, refusal_of, coded, object_of, answered, Told}

-- what was written, or a refusal
pub answer-bytes : (a : Answer) (w : Result ℕ ℕ) (n : ℕ) → w ≡ Ok n → Ok n ≡ answered a w
answer-bytes a w n e = rw e

pub answer-refused : (a : Answer) (w : Result ℕ ℕ) (n : ℕ) (r : Answer) → w ≡ Err n → r ≡ refusing n a.start a.end a.start2 a.end2 → Err r ≡ answered a w
answer-refused a w n r e f = rw e (ap Err f)

module _ (s ws ms : List ℕ) (a : Answer) (b : Buffers) (l : Call.Assembled (lending ws ms) s a b) where
  called_is : Call.called (lending ws ms) s ≡ assemble (lent_words ws ms) s
  unfolding Call.called of_bytes when◌then◌else◌
  called_is = rw (lending-long ws ms) refl

  left : Leaves (assemble (lent_words ws ms) s) (lending ws ms) a b
  left = rw called_is at l

  assembles : Makes (assemble (lent_words ws ms) s) (lending ws ms) a b
  unfolding answer
  assembles =
      record {
        left = left;
        full = lending-long ws ms;
        good = λ x e. accepted-call (lending ws ms) s a b x l (called_is ∙ e);
        numbered = λ q e z.
            let t : Leaves (refused q) (lending ws ms) a b = rw e at left in
            let n : a.number ≡ q.number = ap (λ r. r.number) t.answer in
            omega (arith, n, z, (known-within q.number ((assembling-numbered (lent_words ws ms) s).number q e)).some);
      }

  -- THE ANSWER has the places of the call's, which are none where it accepts
  accepted-places : (x : Object) (n : ℕ) → Leaves (ok x) (lending ws ms) a b → answered a (Err n) ≡ Err (refusing n 0 0 0 0)
  unfolding answer
  accepted-places x n t = λ i. Err (refusing n (t.answer i).first.start (t.answer i).first.stop (t.answer i).second.start (t.answer i).second.stop)

  refused-places : (q : Refusal) → Leaves (refused q) (lending ws ms) a b → answered a (Err q.number) ≡ Err (refusal_of q)
  unfolding answer
  refused-places q t = λ i. Err (refusing q.number (t.answer i).first.start (t.answer i).first.stop (t.answer i).second.start (t.answer i).second.stop)

  module _ (len : ℕ) where
    stored_answer : (x : Object) → Leaves (ok x) (lending ws ms) a b → answered a (Writes.coded (store len x)) ≡ coded (store len x)
    unfolding store
    stored_answer x t = go (leb (length (stored x)) len)
      where
        go : (z : Bool) → answered a (Writes.coded (require z 51 nowhere >> ok (stored x))) ≡ coded (require z 51 nowhere >> ok (stored x))
        go true = refl
        go false = accepted-places x 51 t

    outcome-answer : (o : Outcome Object) → Leaves o (lending ws ms) a b → answered a (Writes.coded (o >>= store len)) ≡ coded (o >>= store len)
    outcome-answer (ok x) t = stored_answer x t
    outcome-answer (refused q) t = refused-places q t

    words_left : (o : Outcome Object) → Leaves o (lending ws ms) a b → b.words ≡ lay_words (object_of o) (length ws)
    words_left (ok x) t = ap (λ (d : Buffers). d.words) t.buffers
    words_left (refused q) t = ap (λ (d : Buffers). d.words) t.buffers

    marks-left : (o : Outcome Object) → Leaves o (lending ws ms) a b → b.marks ≡ lay_marks (object_of o) (length ms)
    marks-left (ok x) t = ap (λ (d : Buffers). d.marks) t.buffers
    marks-left (refused q) t = ap (λ (d : Buffers). d.marks) t.buffers

    pub stored-told : (w : Result ℕ ℕ) (bytes : List ℕ) → MadeStored a b len w bytes → (r : Result ℕ Answer) → r ≡ answered a w → Told s ws ms len r b.words b.marks bytes
    unfolding assemble_stored
    stored-told w bytes m r e =
        let o = assemble (lent_words ws ms) s in
        let h = made-whole assembles len w bytes m in
        record {
          answer = e ∙ (ap (answered a) h.answer ∙ outcome-answer o left);
          holds = h.buffer;
          left_words = words_left o left;
          left_marks = marks-left o left;
        }
