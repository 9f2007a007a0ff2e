-- The call that links: what it answers, and what it leaves in the six lent buffers. Assumes nothing.
use Rattle.rules.specs.Base.{Outcome}
use Rattle.rules.specs.Objects.{Object, Counts}
use Rattle.rules.specs.Buffers.{Buffers, lent_words, view}
use Rattle.rules.specs.Calls.{OfTwoObjects}
use Rattle.rules.specs.Linking.{link}
use Rattle.object_answer.specs.declared.Answer.{Answer}
use Rattle.object_answer.specs.Meant.{Leaves}

-- the outcome of a call that is lent two objects and buffers for a third: 42 for any of the three, 43 for either object, then what the rule says of them
abbrev pub Outcomes : Counts → Buffers → Counts → Buffers → Buffers → Outcome Object → Type 0
Outcomes c b d e out o = OfTwoObjects c b d e out (link (lent_words out.words out.marks) (view c b) (view d e)) o

-- the answer r and the buffers afterwards are those of that outcome
pub record Linked (c : Counts) (b : Buffers) (d : Counts) (e : Buffers) (out : Buffers) (r : Answer) (out' : Buffers) : Type 0 where
  pub outcome : Outcome Object
  pub is : Outcomes c b d e out outcome
  pub leaves : Leaves outcome out r out'
