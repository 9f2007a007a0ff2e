-- An answer and the listing of its object held to what a line asks for. Assumes nothing.
use Rattle.std.specs.declared.result.Result.{Result}
use Rattle.std.specs.declared.result.Result.TheVariants.{Ok, Err}
use Rattle.std.specs.Prelude.{ℕ, ◌-◌, ◌≡◌, Bool, true, false, ◌&&◌, List, eqb, leb, length, take}
use Rattle.rules.specs.Base.{when◌then◌else◌, Outcome, ok, refused, same}
use Rattle.rules.specs.Buffers.{Buffers, six, view, zeros}
use Rattle.rules.specs.Calls.{OfObject}
use Rattle.rules.specs.Listing.{list}
use Rattle.object.specs.Meaning.{counts}
use Rattle.object.specs.declared.Counts.{Counts}
use Rattle.object_answer.specs.declared.Answer.{Answer}
use Rattle.object_answer.specs.Meant.{counts_in}
use Rattle.asm.specs.Call.{Assembled}
use Rattle.test_support.specs.Sources.{unhexed}
use Rattle.test_replay.specs.declared.Lacking.{Lacking}
use Rattle.test_replay.specs.Asked.{same_answer}

-- a listing is the one that the digits stand for; one that does not fit has none
unfoldable pub listed_as : Outcome (List ℕ) → List ℕ → Bool
listed_as (ok l) digits = same l (unhexed digits)
listed_as (refused r) digits = eqb r.number 51 && eqb (length digits) 0

-- the same of a listing's answer and the buffer that it left
unfoldable pub held_to : Result ℕ ℕ → List ℕ → List ℕ → Bool
held_to (Ok n) text digits = when leb n (length text) then same (take n text) (unhexed digits) else false
held_to (Err k) text digits = eqb k 51 && eqb (length digits) 0

-- r says whether what listing the object in these buffers into 399 bytes answers is what the digits stand for
pub record Listed (c : Counts) (b : Buffers) (digits : List ℕ) (r : Bool) : Type 0 where
  pub outcome : Outcome (List ℕ)
  pub lent : OfObject (counts c) b (list 399 (view (counts c) b)) outcome
  pub is : r ≡ listed_as outcome digits

-- r says whether an answer is the one asked for, and where it is acceptance the listing of the object that it left
pub data AsAsked (got asked : Answer) (digits : List ℕ) (b : Buffers) (r : Bool) : Type 0 where
  other : same_answer got asked ≡ false → r ≡ false → AsAsked got asked digits b r
  refusal : same_answer got asked ≡ true → (got.number ≡ 0 → ⊥) → r ≡ true → AsAsked got asked digits b r
  object : same_answer got asked ≡ true → got.number ≡ 0 → Listed (counts_in got) b digits r → AsAsked got asked digits b r

-- r says so of a source assembled into these buffers
pub record Replays (b : Buffers) (src : List ℕ) (asked : Answer) (digits : List ℕ) (r : Bool) : Type 0 where
  pub got : Answer
  pub after : Buffers
  pub assembled : Assembled b src got after
  pub held : AsAsked got asked digits after r

-- zeroed buffers that lack so much of their full sizes
unfoldable pub lent_to : Lacking → Buffers
lent_to l = six (zeros (128 - l.blocks)) (zeros (65024 - l.words)) (zeros (65024 - l.marks)) (zeros (4096 - l.labels)) (zeros (2048 - l.relocations)) (zeros (65536 - l.names))
