-- The call that assembles: what it answers, and what it leaves in the six lent buffers. Assumes nothing.
use Rattle.std.specs.Prelude.{List, ℕ}
use Rattle.rules.specs.Base.{Outcome}
use Rattle.rules.specs.Objects.{Object}
use Rattle.rules.specs.Buffers.{Buffers, lent_words}
use Rattle.rules.specs.Calls.{of_bytes}
use Rattle.rules.specs.Passes.{assemble}
use Rattle.pass1_state.specs.declared.Pass1State.{Pass1State}
use Rattle.pass2_statement.specs.declared.Pass2State.{Pass2State}
use Rattle.object_answer.specs.declared.Answer.{Answer}
use Rattle.object_answer.specs.Meant.{Leaves}

-- of an object with these tables and blocks
abbrev pub accepting : Pass1State → Pass2State → Answer
accepting o t = record { number = 0; start = 0; end = 0; start2 = 0; end2 = 0; blocks = t.blocks; words = t.used; labels = o.labels; relocations = o.relocations }

-- a call that is lent a source and buffers for an object
unfoldable pub called : Buffers → List ℕ → Outcome Object
called b s = of_bytes b (assemble (lent_words b.words b.marks) s)

abbrev pub Assembled : Buffers → List ℕ → Answer → Buffers → Type 0
Assembled b s r b' = Leaves (called b s) b r b'
