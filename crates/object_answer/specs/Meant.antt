-- The answer of a call that makes an object, in the rules' words. Assumes nothing.
use Rattle.std.specs.Prelude.{◌≡◌, ℕ}
use Rattle.rules.specs.Base.{Outcome, span}
use Rattle.rules.specs.Answers as rule
use Rattle.rules.specs.Objects.{Object, counts_of, Good}
use Rattle.rules.specs.Buffers.{Buffers, layout, Valid}
use Rattle.rules.specs.Calls.{Makes}
use Rattle.object.specs.declared.Counts.{Counts}
use Rattle.object_answer.specs.declared.Answer.{Answer}

-- the answer in the rules' words
abbrev pub meant : Answer → rule.Answer
meant r = record {
  number = r.number;
  first = span r.start r.end;
  second = span r.start2 r.end2;
  counts = record { blocks = r.blocks; words = r.words; labels = r.labels; relocs = r.relocations };
}

-- of an object with these counts
abbrev pub accepting : Counts → Answer
accepting c =
    record { number = 0; start = 0; end = 0; start2 = 0; end2 = 0; blocks = c.blocks; words = c.words; labels = c.labels; relocations = c.relocations }

-- the counts in an answer
abbrev pub counts_in : Answer → Counts
counts_in a = record { blocks = a.blocks; words = a.words; labels = a.labels; relocations = a.relocations }

-- of a refusal
abbrev pub refusing : (n a e b f : ℕ) → Answer
refusing n a e b f = record { number = n; start = a; end = e; start2 = b; end2 = f; blocks = 0; words = 0; labels = 0; relocations = 0 }

-- what a stage answers of buffers b and leaves in them, where the rule's outcome is o
abbrev pub Leaves : Outcome Object → Buffers → Answer → Buffers → Type 0
Leaves o b r b' = Makes o b (meant r) b'

-- what an accepted call leaves: a good object in its one layout, valid, with its counts
pub record AcceptedCall (b : Buffers) (r : Answer) (b' : Buffers) (o : Object) : Type 0 where
  pub good : Good o
  pub laid : b' ≡ layout o b
  pub counts : meant r ≡ rule.accepted (counts_of o)
  pub valid : Valid (counts_of o) b'
