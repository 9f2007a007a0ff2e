-- The call that loads: what it answers, and what it leaves in the six lent buffers. Assumes nothing.
use Rattle.std.specs.Prelude.{List, ℕ}
use Rattle.rules.specs.Base.{Outcome}
use Rattle.rules.specs.Objects.{Object}
use Rattle.rules.specs.Buffers.{Buffers, lent_words}
use Rattle.rules.specs.Stored.{load}
use Rattle.rules.specs.Calls.{of_bytes}
use Rattle.object_answer.specs.declared.Answer.{Answer}
use Rattle.object_answer.specs.Meant.{Leaves}

-- a call that is lent stored bytes and buffers for an object
unfoldable pub called : Buffers → List ℕ → Outcome Object
called out b = of_bytes out (load (lent_words out.words out.marks) b)

abbrev pub Loaded : Buffers → List ℕ → Answer → Buffers → Type 0
Loaded out b r out' = Leaves (called out b) out r out'
