-- What the call that lists answers and leaves in the buffer. Assumes nothing.
use Rattle.std.specs.declared.result.Result.{Result}
use Rattle.std.specs.Prelude.{ℕ, List}
use Rattle.rules.specs.Objects.{Counts, Object}
use Rattle.rules.specs.Buffers.{Buffers}
use Rattle.rules.specs.Listing.{list}
use Rattle.object_answer.specs.Writes.{Whole, Writes}

-- of a valid object
abbrev pub WrittenOf : Object → ℕ → Result ℕ ℕ → List ℕ → Type 0
WrittenOf x len r bytes = Whole (list len x) len r bytes

-- of lent buffers: first 42, then 43, then the rule's listing of the object that stands in them
abbrev pub Called : Counts → Buffers → ℕ → Result ℕ ℕ → List ℕ → Type 0
Called c b len r bytes = Writes list c b len r bytes
