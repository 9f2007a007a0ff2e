-- A call that writes a lent object as bytes, by any rule: what it answers and leaves in the buffer. Assumes nothing.
use Rattle.std.specs.declared.result.Result.{Result}
use Rattle.std.specs.declared.result.Result.TheVariants.{Ok, Err}
use Rattle.std.specs.Prelude.{ℕ, ◌≡◌, List, length}
use Rattle.std.proofs.Common.{sym, ◌∙◌, ap}
use Rattle.rules.specs.Base.{Outcome, ok, refused}
use Rattle.rules.specs.Objects.{Counts, Object}
use Rattle.rules.specs.Buffers.{Buffers, view}
use Rattle.rules.specs.Calls.{OfObject, left_bytes}
use Rattle.rules.proofs.Calls.{answered-once}

-- an answer in the paper's numbers: the count of bytes, or the refusal's number
abbrev pub coded : Outcome (List ℕ) → Result ℕ ℕ
coded (ok l) = Ok (length l)
coded (refused r) = Err r.number

-- the answer r, with the buffer afterwards, of a rule's outcome
pub record Whole (o : Outcome (List ℕ)) (len : ℕ) (r : Result ℕ ℕ) (bytes : List ℕ) : Type 0 where
  pub answer : r ≡ coded o
  pub buffer : bytes ≡ left_bytes o len

-- of lent buffers: first 42, then 43, then what the rule writes, into so many bytes, of the object that stands in them
pub record Writes (rule : ℕ → Object → Outcome (List ℕ)) (c : Counts) (b : Buffers) (len : ℕ) (r : Result ℕ ℕ) (bytes : List ℕ) : Type 0 where
  pub outcome : Outcome (List ℕ)
  pub lent : OfObject c b (rule len (view c b)) outcome
  pub whole : Whole outcome len r bytes

-- TWO ANSWERS THAT IT ALLOWS ARE EQUAL, and so are the buffers
module _ {rule : ℕ → Object → Outcome (List ℕ)} {c : Counts} {b : Buffers} {len : ℕ} {r s : Result ℕ ℕ} {x y : List ℕ} (p : Writes rule c b len r x)
    (q : Writes rule c b len s y) where
  pub one_answer : r ≡ s
  one_answer = p.whole.answer ∙ (ap coded (answered-once p.lent q.lent) ∙ sym q.whole.answer)

  pub one_buffer : x ≡ y
  one_buffer = p.whole.buffer ∙ (ap (λ (o : Outcome (List ℕ)). left_bytes o len) (answered-once p.lent q.lent) ∙ sym q.whole.buffer)
