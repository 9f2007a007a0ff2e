-- Labels put one behind another, while the walk goes on. Assumes nothing.
use Rattle.std.specs.Prelude.{◌≡◌, false, List, ℕ, ◌+◌, ◌-◌, ◌≤◌, length, get_or}
use Rattle.rules.specs.Buffers.{Buffers, six, short, lent_words}
use Rattle.rules.specs.Stored.{State}
use Rattle.laws_stored.specs.Offsets.{number_at, part_at}
use Rattle.stored_walk.specs.declared.Walk.{Walk}
use Rattle.stored_walk.specs.Walking.{Tells}
use Rattle.stored_put.specs.Laid.{Laid, Labelled}

-- the label of the field from `at` up to `end` is row k, its name behind m name bytes
pub record PutNamed (b : List ℕ) (at end : ℕ) (ls ns ls' ns' : List ℕ) (k m : ℕ) : Type 0 where
  pub defined : get_or b at 0 ≡ 4 → Labelled ls ns ls' ns' k m (number_at b (at + 3)) 0 (part_at b (at + 3 + 2) (end - (at + 3 + 2)))
  pub external : get_or b at 0 ≡ 5 → Labelled ls ns ls' ns' k m 0 1 (part_at b (at + 3) (end - (at + 3)))

-- room for full capacities
pub record Roomy (ls ns : List ℕ) : Type 0 where
  pub rows : 4096 ≤ length ls
  pub bytes : 65536 ≤ length ns

-- behind some labels, from state s on: what was read with them stands in the buffers, where it did before them
pub record RunsOn (b places : List ℕ) (w r : Walk) (room : ℕ) (s : State) (ls ns ls' ns' : List ℕ) : Type 0 where
  pub state : State
  pub tells : Tells b places r state
  pub laid : (out : Buffers) (bs ws ms rs : List ℕ) → short out ≡ false → room ≡ lent_words out.words out.marks → w.words ≤ room → Laid s out (six bs ws ms ls rs ns) → Laid state out (six bs ws ms ls' rs ns')

pub record PutRun (b old new : List ℕ) (w r : Walk) (room : ℕ) (ls ns ls' ns' : List ℕ) : Type 0 where
  pub size : length new ≡ length old
  pub further : w.at ≤ r.at
  pub words : r.words ≡ w.words
  pub runs : (s : State) → Tells b old w s → RunsOn b new w r room s ls ns ls' ns'
