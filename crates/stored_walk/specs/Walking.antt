-- The walk's numbers and the rules' state of what was read. Assumes nothing.
use Rattle.std.specs.Prelude.{◌≡◌, true, false, List, [], ℕ, zero, suc, ◌+◌, length}
use Rattle.rules.specs.Base.{ok, refuse, offset_at}
use Rattle.rules.specs.Tables.{Table}
use Rattle.rules.specs.Objects.{Lab, Name, counts_of, flat}
use Rattle.rules.specs.Buffers.{name_bytes, row_of}
use Rattle.rules.specs.Stored.{Item, fin, block, run, label, reloc, State, held, Prev, free, short, skipped, after, flatten, may, next, is_fin, check}
use Rattle.laws_stored.proofs.Accepted.{Finds}
use Rattle.laws_stored.proofs.Checking.{Checks}
use Rattle.object.specs.declared.Counts.{Counts}
use Rattle.object.specs.Meaning.{counts}
use Rattle.stored_seek.specs.Seeking.{Cursor, Noted}
use Rattle.stored_walk.specs.declared.Walk.{Walk}
use Rattle.stored_walk.specs.declared.Walked.{Walked}
use Rattle.stored_walk.specs.declared.Walked.TheVariants.{On, Ended, Broken}

-- before the first field
abbrev pub begun : Walk
begun = record {
  at = 0;
  blocks = 0;
  words = 0;
  floor = 0;
  owed = 0;
  previous = 0;
  labels = 0;
  named = 0;
  relocations = 0;
  least = 0;
  row = 0;
  seen = 0;
  address = 0;
}

-- what run came last, as a number
abbrev pub coded : Prev → ℕ
coded free = 0
coded short = 1
coded skipped = 2

-- blocks read, the open one among them
abbrev pub blocks_of : ℕ → ℕ → ℕ
blocks_of zero n = n
blocks_of (suc k) n = suc n

-- where the last block ends, the open one or a closed one
abbrev pub floor_of : ℕ → ℕ → ℕ → ℕ
floor_of zero closed opened = closed
floor_of (suc k) closed opened = opened

-- THE WALK TELLS THE STATE of what was read up to its position
pub record Tells (b places : List ℕ) (w : Walk) (s : State) : Type 0 where
  pub checks : Checks b s w.at
  pub blocks : w.blocks ≡ blocks_of s.owed (length s.blocks)
  pub words : w.words ≡ length (flat s.blocks) + length (flatten s.runs)
  pub floor : w.floor ≡ floor_of s.owed s.floor (s.start + s.total)
  pub owed : w.owed ≡ s.owed
  pub previous : w.previous ≡ coded (after free s.runs)
  pub shut : s.owed ≡ 0 → s.runs ≡ []
  pub labels : w.labels ≡ length s.labels
  pub named : w.named ≡ length (name_bytes s.labels)
  pub noted : Noted b places s.labels
  pub relocations : w.relocations ≡ length s.relocs
  pub least : w.least ≡ s.least
  pub fresh : s.relocs ≡ [] → (w.seen ≡ 0) × (w.address ≡ 0)
  pub cursor : Cursor s w.seen w.address s.least

-- of some state
pub record Going (b places : List ℕ) (w : Walk) : Type 0 where
  pub state : State
  pub tells : Tells b places w state

-- a relocation's label row
abbrev pub Rowed : Table Name Lab → Item → ℕ → Type 0
Rowed ls fin r = Unit {0}
Rowed ls (block a n) r = Unit {0}
Rowed ls (run x) r = Unit {0}
Rowed ls (label n v) r = Unit {0}
Rowed ls (reloc a n) r = r ≡ row_of ls n

-- A STEP: a field that may follow
pub record Onward (b places : List ℕ) (w : Walk) (s : State) (r : Walk) : Type 0 where
  pub item : Item
  pub found : Finds b w.at item r.at
  pub allowed : may s item ≡ true
  pub more : is_fin item ≡ false
  pub row : Rowed s.labels item r.row
  pub tells : Tells b places r (next s item)

-- the end of an object
pub record Whole (b : List ℕ) (s : State) (c : Counts) : Type 0 where
  pub closed : s.owed ≡ 0
  pub checked : check b ≡ ok (held s)
  pub counted : counts c ≡ counts_of (held s)

-- or 50 at an offset
unfoldable pub Steps : (b places : List ℕ) → Walk → State → Walked → Type 0
Steps b places w s (On r) = Onward b places w s r
Steps b places w s (Ended c) = Whole b s c
Steps b places w s (Broken k) = check b ≡ refuse 50 (offset_at k)

-- whatever was read, where the field writes no place
pub record Stepped (b : List ℕ) (w : Walk) (r : Walked) : Type 0 where
  pub steps : (places : List ℕ) (s : State) → Tells b places w s → Steps b places w s r

-- and where it may write one
pub record Moves (b old new : List ℕ) (w : Walk) (r : Walked) : Type 0 where
  pub size : length new ≡ length old
  pub steps : (s : State) → Tells b old w s → Steps b new w s r
