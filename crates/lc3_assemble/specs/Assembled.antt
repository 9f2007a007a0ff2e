-- A source assembled into stored bytes: what comes of it, and what is left in the lent buffers. Assumes nothing.
use Rattle.std.specs.Prelude.{ℕ, ◌≡◌, List, length}
use Rattle.std.specs.declared.result.Result.{Result}
use Rattle.std.specs.declared.result.Result.TheVariants.{Ok, Err}
use Rattle.std.proofs.Common.{sym, ◌∙◌}
use Rattle.rules.specs.Base.{Outcome, ok, refused, Refusal, ◌>>=◌}
use Rattle.rules.specs.Objects.{Object, nothing}
use Rattle.rules.specs.Buffers.{lent_words, lay_words, lay_marks}
use Rattle.rules.specs.Calls.{left_bytes}
use Rattle.rules.specs.Passes.{assemble}
use Rattle.rules.specs.Stored.{store}
use Rattle.object_answer.specs.declared.Answer.{Answer}
use Rattle.object_answer.specs.Meant.{refusing}

-- a source's object, with so many words lent, stored in so many bytes: what assembling refuses, then 51
unfoldable pub assemble_stored : ℕ → ℕ → List ℕ → Outcome (List ℕ)
assemble_stored room len s = do
  o ← assemble room s
  store len o

-- a refusal with its places
abbrev pub refusal_of : Refusal → Answer
refusal_of q = refusing q.number q.first.start q.first.stop q.second.start q.second.stop

-- how it is answered: the count of bytes, or the refusal
abbrev pub coded : Outcome (List ℕ) → Result ℕ Answer
coded (ok l) = Ok (length l)
coded (refused q) = Err (refusal_of q)

-- what stands in the lent words and marks: those of the object; zeros after a refusal
abbrev pub object_of : Outcome Object → Object
object_of (ok o) = o
object_of (refused q) = nothing

-- the answer r of a source s, with the lent words, marks and bytes afterwards; before, they were ws and ms and len bytes
pub record Told (s ws ms : List ℕ) (len : ℕ) (r : Result ℕ Answer) (words marks bytes : List ℕ) : Type 0 where
  pub answer : r ≡ coded (assemble_stored (lent_words ws ms) len s)
  pub holds : bytes ≡ left_bytes (assemble_stored (lent_words ws ms) len s) len
  pub left_words : words ≡ lay_words (object_of (assemble (lent_words ws ms) s)) (length ws)
  pub left_marks : marks ≡ lay_marks (object_of (assemble (lent_words ws ms) s)) (length ms)

-- TWO ANSWERS THAT IT ALLOWS ARE EQUAL, and so are the bytes
module _ {s ws ms : List ℕ} {len : ℕ} {r t : Result ℕ Answer} {w v m n b c : List ℕ} (p : Told s ws ms len r w m b) (q : Told s ws ms len t v n c) where
  pub one_answer : r ≡ t
  one_answer = p.answer ∙ sym q.answer

  pub one_bytes : b ≡ c
  one_bytes = p.holds ∙ sym q.holds

-- INNER FUNCTIONS: what was written, or the refusal at the places of the call's answer
abbrev pub answered : Answer → Result ℕ ℕ → Result ℕ Answer
answered a (Ok n) = Ok n
answered a (Err n) = Err (refusing n a.start a.end a.start2 a.end2)
