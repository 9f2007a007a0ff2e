-- What the calls that store answer and leave in the buffer. Assumes nothing.
use Rattle.std.specs.declared.result.Result.{Result}
use Rattle.std.specs.Prelude.{ℕ, ◌≡◌, List}
use Rattle.rules.specs.Base.{refuse, nowhere}
use Rattle.rules.specs.Objects.{Counts, Object}
use Rattle.rules.specs.Buffers.{Buffers}
use Rattle.rules.specs.Stored.{store}
use Rattle.object.specs.Meaning.{counts}
use Rattle.object_answer.specs.Meant.{counts_in}
use Rattle.object_answer.specs.Writes.{Whole, Writes}
use Rattle.object_answer.specs.declared.Answer.{Answer}

-- of a valid object
abbrev pub WrittenOf : Object → ℕ → Result ℕ ℕ → List ℕ → Type 0
WrittenOf x len r bytes = Whole (store len x) len r bytes

-- of lent buffers: first 42, then 43, then the rule's stored form of the object that stands in them
abbrev pub Called : Counts → Buffers → ℕ → Result ℕ ℕ → List ℕ → Type 0
Called c b len r bytes = Writes store c b len r bytes

-- of a call's answer and the buffers that it left: the object that it has made, or its refusal handed on
pub record MadeStored (a : Answer) (b : Buffers) (len : ℕ) (r : Result ℕ ℕ) (bytes : List ℕ) : Type 0 where
  pub object : a.number ≡ 0 → Called (counts (counts_in a)) b len r bytes
  pub refusal : (a.number ≡ 0 → ⊥) → Whole (refuse a.number nowhere) len r bytes
