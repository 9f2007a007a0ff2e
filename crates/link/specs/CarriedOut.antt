-- A way of linking carried out by calls of `link`: each entry lent in buffers of its own, each link a call that is lent what its two parts left. Assumes nothing.
use Rattle.std.specs.Prelude.{◌≡◌, false, ℕ, ◌≤◌, ◌<◌, length, get_or}
use Rattle.rules.specs.Base.{Outcome, ok, refused}
use Rattle.rules.specs.Capacities.{word_room}
use Rattle.rules.specs.Answers as rule
use Rattle.rules.specs.Objects.{Object, Counts, counts_of}
use Rattle.rules.specs.Buffers.{Buffers, short, lent_words, view, Valid}
use Rattle.laws_link.specs.Ways.{Way, leaf, node}
use Rattle.object_answer.specs.declared.Answer.{Answer}
use Rattle.object_answer.specs.Meant.{meant}
use Rattle.link.specs.Call.{Linked}

-- WHAT IS LENT

-- an object that 42 and 43 let pass; its words are numbers of two bytes, as in every buffer of u16
pub record Lent (c : Counts) (b : Buffers) : Type 0 where
  pub full : short b ≡ false
  pub valid : Valid c b
  pub words : (i : ℕ) → get_or b.words i 0 < 65536

-- each entry of the way is the object that stands in lent buffers
abbrev pub EntriesLent : Way → Type 0
EntriesLent (leaf e) = (c : Counts) × (b : Buffers) × Lent c b × (view c b ≡ e)
EntriesLent (node room s t) = EntriesLent s × EntriesLent t

-- THE CALLS

-- a call for two parts that stand in b and e: it is lent buffers of full size and so many words, answers r and leaves x
pub record Call (room : ℕ) (c : Counts) (b : Buffers) (d : Counts) (e : Buffers) (r : Answer) (x : Buffers) : Type 0 where
  pub out : Buffers
  pub full : short out ≡ false
  pub lends : lent_words out.words out.marks ≡ room
  pub linked : Linked c b d e out r x

-- what comes of a way: an object that stands in buffers with these counts, or the answer of the call that refused
pub data Ends : Type 0 where
  stands : Counts → Buffers → Ends
  stopped : Answer → Ends

-- the counts that an answer gives
abbrev pub told : Answer → Counts
told r = (meant r).counts

-- the calls of a way, one after another, and what comes of it: number 0 goes on, any other ends all
pub data CarriedOut : Way → Ends → Type 0 where
  -- an entry is lent as it is
  entry : {c : Counts} {b : Buffers} → Lent c b → CarriedOut (leaf (view c b)) (stands c b)
  -- a refusal of a part: the other part and the link are not called for
  first_stops : {room : ℕ} {s t : Way} {r : Answer} → CarriedOut s (stopped r) → EntriesLent t → CarriedOut (node room s t) (stopped r)
  second_stops : {room : ℕ} {s t : Way} {c : Counts} {b : Buffers} {r : Answer} → CarriedOut s (stands c b) → CarriedOut t (stopped r) → CarriedOut (node room s t) (stopped r)
  -- both parts stand, and the link of them is called
  accepts : {room : ℕ} {s t : Way} {c d : Counts} {b e x : Buffers} {r : Answer} → CarriedOut s (stands c b) → CarriedOut t (stands d e)
      → Call room c b d e r x → r.number ≡ 0 → CarriedOut (node room s t) (stands (told r) x)
  refuses : {room : ℕ} {s t : Way} {c d : Counts} {b e x : Buffers} {r : Answer} → CarriedOut s (stands c b) → CarriedOut t (stands d e)
      → Call room c b d e r x → (r.number ≡ 0 → ⊥) → CarriedOut (node room s t) (stopped r)

-- each link of the way is lent no more words than a buffer can lend
abbrev pub Lendable : Way → Type 0
Lendable (leaf e) = Unit {0}
Lendable (node room s t) = (room ≤ word_room) × Lendable s × Lendable t

-- WHAT CAME OF IT

-- it is what the rule says: the object with its counts, or the refusal with its number and place
abbrev pub Tells : Outcome Object → Ends → Type 0
Tells (ok o) (stands c b) = (view c b ≡ o) × (c ≡ counts_of o)
Tells (ok o) (stopped r) = ⊥
Tells (refused q) (stands c b) = ⊥
Tells (refused q) (stopped r) = meant r ≡ rule.refusal q

-- two ways both stand, with one same object and the same counts, or both were refused
abbrev pub Alike : Ends → Ends → Type 0
Alike (stands c b) (stands d e) = (c ≡ d) × (view c b ≡ view d e)
Alike (stands c b) (stopped r) = ⊥
Alike (stopped r) (stands d e) = ⊥
Alike (stopped r) (stopped q) = Unit {0}

-- it was refused
abbrev pub Stopped : Ends → Type 0
Stopped (stands c b) = ⊥
Stopped (stopped r) = Unit {0}

-- the same at every place of the six buffers; past a buffer's end there are zeros
pub record SameContents (b e : Buffers) : Type 0 where
  pub blocks : (i : ℕ) → get_or b.blocks i 0 ≡ get_or e.blocks i 0
  pub words : (i : ℕ) → get_or b.words i 0 ≡ get_or e.words i 0
  pub marks : (i : ℕ) → get_or b.marks i 0 ≡ get_or e.marks i 0
  pub labels : (i : ℕ) → get_or b.labels i 0 ≡ get_or e.labels i 0
  pub relocs : (i : ℕ) → get_or b.relocs i 0 ≡ get_or e.relocs i 0
  pub names : (i : ℕ) → get_or b.names i 0 ≡ get_or e.names i 0

-- six buffers of the same lengths
pub record SameSizes (b e : Buffers) : Type 0 where
  pub blocks : length b.blocks ≡ length e.blocks
  pub words : length b.words ≡ length e.words
  pub marks : length b.marks ≡ length e.marks
  pub labels : length b.labels ≡ length e.labels
  pub relocs : length b.relocs ≡ length e.relocs
  pub names : length b.names ≡ length e.names
