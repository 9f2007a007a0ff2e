-- Words and labels looked for in the fields that were read. Assumes nothing.
use Rattle.std.specs.declared.option.Option as O
use Rattle.std.specs.declared.option.Option.TheVariants.{Some, None}
use Rattle.std.specs.Prelude.{◌≡◌, true, false, List, [], ◌∷◌, ℕ, ◌+◌, ◌≤◌, ◌<◌, length, get_or}
use Rattle.rules.specs.Capacities.{label_room}
use Rattle.rules.specs.Tables.{Table, look, nat_order, name_order}
use Rattle.rules.specs.Objects.{Lab, outer, Name, cells}
use Rattle.rules.specs.Buffers.{row_of}
use Rattle.rules.specs.Stored.{Item, fin, block, run, label, reloc, size, State, is_zero, is_outer}
use Rattle.laws_stored.specs.Lookups.{word_in}
use Rattle.laws_stored.proofs.Accepted.{Finds}
use Rattle.laws_stored.proofs.Taken.{so_far}
use Rattle.laws_stored.proofs.Checking.{Checks}
use Rattle.laws_stored.proofs.Walked.{Walks}
use Rattle.stored_seek.specs.declared.Sought.{Sought}
use Rattle.stored_seek.specs.declared.Pace.{Pace}
use Rattle.stored_seek.specs.declared.Pace.TheVariants.{Past, Here}

-- WORDS BY ADDRESS

-- each block begins where the one before ended, or later; p is the address of the next word
unfoldable pub Rising : ℕ → List Item → Type 0
Rising p [] = Unit {0}
Rising p (fin ∷ is) = Rising p is
Rising p (block s n ∷ is) = (p ≤ s) × Rising s is
Rising p (run r ∷ is) = Rising (p + size r) is
Rising p (label n v ∷ is) = Rising p is
Rising p (reloc a n ∷ is) = Rising p is

-- of the fields that make state s, those from `seen` on, where words begin at `address`, say of every address from `least` on what all of them say
pub record Cursor (s : State) (seen address least : ℕ) : Type 0 where
  pub rest : List Item
  pub walks : Walks s seen rest
  pub rising : Rising address rest
  pub same : (a : ℕ) → least ≤ a → word_in 0 (so_far s) a ≡ word_in address rest a

-- a search may begin: up to `end` the bytes are the fields that make state s, and no block is open
pub record Seeker (b : List ℕ) (s : State) (end seen address least wanted : ℕ) : Type 0 where
  pub checks : Checks b s end
  pub closed : s.owed ≡ 0
  pub cursor : Cursor s seen address least
  pub above : least ≤ wanted

-- what it finds: whether a set word 0 stands at the address; if so, the next search may begin there
pub record Seeks (s : State) (wanted : ℕ) (r : Sought) : Type 0 where
  pub zero : r.zero ≡ is_zero (look nat_order (cells s.blocks) wanted)
  pub cursor : r.zero ≡ true → Cursor s r.seen r.address wanted

-- one field on, where words begin at `here`: the search goes on behind it, or ends there
unfoldable pub Paced : (b : List ℕ) (s : State) (end at here wanted : ℕ) → Pace → Type 0
Paced b s end at here wanted (Past z a) = Seeker b s end z a wanted wanted
Paced b s end at here wanted (Here q) = Seeks s wanted (record { seen = at; address = here; zero = q })

pub record Paces (b : List ℕ) (at here wanted : ℕ) (r : Pace) : Type 0 where
  pub further : (z a : ℕ) → r ≡ Past z a → at < z
  pub told : (s : State) (end least : ℕ) → Seeker b s end at here least wanted → at < end → Paced b s end at here wanted r

-- LABELS BY NAME

-- the field at a place is that label's
pub record LabelAt (b : List ℕ) (at : ℕ) (e : Name × Lab) : Type 0 where
  pub next : ℕ
  pub found : Finds b at (label e.0 e.1) next

-- the places of the labels' fields, one for each row
pub record Noted (b places : List ℕ) (ls : Table Name Lab) : Type 0 where
  pub room : label_room ≤ length places
  pub rows : (k : ℕ) → k < length ls → LabelAt b (get_or places k 0) (get_or ls k ([], outer))

-- of n labels that were read, in state s
pub record Listed (b places : List ℕ) (n : ℕ) (s : State) (end : ℕ) : Type 0 where
  pub checks : Checks b s end
  pub count : n ≡ length s.labels
  pub noted : Noted b places s.labels

-- in some state
pub record ListedIn (b places : List ℕ) (n : ℕ) : Type 0 where
  pub state : State
  pub end : ℕ
  pub listed : Listed b places n state end

-- the row of an external's name
unfoldable pub row_told : Table Name Lab → Name → O.Option ℕ
row_told ls n = elim (is_outer (look name_order ls n)) [ true ↦ Some (row_of ls n) | false ↦ None ]
