-- Six cleared buffers filled field by field, and what came of it. Assumes nothing.
use Rattle.std.specs.Prelude.{◌≡◌, false, List, ℕ, ◌≤◌, ◌<◌, length, Result, Ok, Err}
use Rattle.rules.specs.Base.{ok, refuse, offset_at}
use Rattle.rules.specs.Capacities.{label_room}
use Rattle.rules.specs.Objects.{Object, nothing, counts_of}
use Rattle.rules.specs.Buffers.{Buffers, short, lent_words, layout}
use Rattle.rules.specs.Stored.{check}
use Rattle.object.specs.declared.Counts.{Counts}
use Rattle.object.specs.Meaning.{counts}
use Rattle.object_answer.specs.declared.Answer.{Answer}
use Rattle.object_answer.specs.Meant.{accepting, refusing}
use Rattle.stored_walk.specs.declared.Walk.{Walk}
use Rattle.stored_put.specs.Laid.{Met, Puts}

-- buffers of the same lengths
pub record Lengths (out x : Buffers) : Type 0 where
  pub blocks : length x.blocks ≡ length out.blocks
  pub words : length x.words ≡ length out.words
  pub marks : length x.marks ≡ length out.marks
  pub labels : length x.labels ≡ length out.labels
  pub relocs : length x.relocs ≡ length out.relocs
  pub names : length x.names ≡ length out.names

-- a field is met, if the words up to behind it fit
pub record Fitting (b : List ℕ) (w r : Walk) (room : ℕ) (x : Buffers) : Type 0 where
  pub met : r.words ≤ room → Met b w r x

-- and put, if they do
pub record PutFitting (b : List ℕ) (w r : Walk) (room : ℕ) (x y : Buffers) : Type 0 where
  pub puts : r.words ≤ room → Puts b w r x y

-- buffers that 42 lets pass, and the words that they lend
pub record Lent (room : ℕ) (x : Buffers) : Type 0 where
  pub full : short x ≡ false
  pub words : room ≡ lent_words x.words x.marks

-- all zero, with room for the places of labels
pub record Fillable (places : List ℕ) (room : ℕ) (x : Buffers) : Type 0 where
  pub noting : label_room ≤ length places
  pub lent : Lent room x
  pub clear : x ≡ layout nothing x

-- the bytes are an object with these counts, which stands in the buffers if its words fit
pub record Fills (b : List ℕ) (room : ℕ) (out now : Buffers) (c : Counts) : Type 0 where
  pub object : Object
  pub checked : check b ≡ ok object
  pub counted : counts c ≡ counts_of object
  pub laid : c.words ≤ room → now ≡ layout object out

-- or they are none
pub record Came (b : List ℕ) (room : ℕ) (out now : Buffers) (r : Result Counts ℕ) : Type 0 where
  pub lengths : Lengths out now
  pub filled : (c : Counts) → r ≡ Ok c → Fills b room out now c
  pub broken : (k : ℕ) → r ≡ Err k → check b ≡ refuse 50 (offset_at k)

-- WHAT IS ANSWERED, and what is left of buffers x

pub record Refuses (n at : ℕ) (x : Buffers) (r : Answer) (y : Buffers) : Type 0 where
  pub answer : r ≡ refusing n at at 0 0
  pub buffers : y ≡ layout nothing x

pub record Accepts (c : Counts) (x : Buffers) (r : Answer) (y : Buffers) : Type 0 where
  pub answer : r ≡ accepting c
  pub buffers : y ≡ x

-- of an object that fits, of one that does not, and of bytes that are none
pub record Settles (f : Result Counts ℕ) (room : ℕ) (x : Buffers) (r : Answer) (y : Buffers) : Type 0 where
  pub fits : (c : Counts) → f ≡ Ok c → c.words ≤ room → Accepts c x r y
  pub not : (c : Counts) → f ≡ Ok c → room < c.words → Refuses 41 0 x r y
  pub broken : (k : ℕ) → f ≡ Err k → Refuses 50 k x r y
