-- The runs of words beside their marks, and the bytes of their fields. Assumes nothing.
use Rattle.std.specs.Prelude.{ℕ, zero, suc, ◌+◌, ◌*◌, ◌≤◌, ◌<◌, ◌≡◌, true, false, List, [], ◌∷◌, eqb, length, get_or, take, drop}
use Rattle.rules.specs.Objects.{Cell}
use Rattle.rules.specs.Buffers.{tab, cell_row}
use Rattle.rules.specs.Stored.{sets, gap, run, run_room, spell, run_items, runs_of}
use Rattle.stored_fields.specs.Fields.{field_of}

-- how many marks at the front are m
unfoldable pub alike : ℕ → List ℕ → ℕ
alike m [] = 0
alike m (x ∷ ms) = elim (eqb x m) [ true ↦ suc (alike m ms) | false ↦ 0 ]

-- the first i marks are m: so many, and those that follow
pub record Passed (m : ℕ) (ms : List ℕ) (i : ℕ) : Type 0 where
  pub rest : alike m ms ≡ i + alike m (drop i ms)
  pub within : i ≤ length ms

abbrev pub Alike : ℕ → List ℕ → ℕ → Type 0
Alike m ms i = (j : ℕ) → j < i → get_or ms j 0 ≡ m

-- how many words the first run has: those with the mark of the first, set ones up to 16,384
unfoldable pub run_ahead : List ℕ → ℕ
run_ahead [] = 0
run_ahead (zero ∷ ms) = alike zero (zero ∷ ms)
run_ahead (suc m ∷ ms) = alike (suc m) (take run_room (suc m ∷ ms))

-- words beside their marks
unfoldable pub cells_of : List ℕ → List ℕ → List Cell
cells_of ws ms = tab (length ms) (cell_row ws ms)

-- the field of one run, whose words have the mark m
abbrev pub run_field : ℕ → List ℕ → List ℕ
run_field zero ws = field_of (run (gap (length ws)))
run_field (suc m) ws = field_of (run (sets ws))

-- the fields of all runs
unfoldable pub run_bytes : List ℕ → List ℕ → List ℕ
run_bytes ws ms = spell (run_items (runs_of (cells_of ws ms)))

-- each mark is 0 or 1
pub record Marked (ms : List ℕ) : Type 0 where
  pub low : (i : ℕ) → i < length ms → get_or ms i 0 ≤ 1

-- words beside their marks, as many as a block may have
pub record CellsReady (ws ms : List ℕ) : Type 0 where
  pub same : length ws ≡ length ms
  pub few : length ms ≤ 65024
  pub marked : Marked ms

-- n words with the mark m are few enough for one run: a block's, and 16,384 where they are set
pub record RunFits (m n : ℕ) : Type 0 where
  pub few : n ≤ 65024
  pub short : (m ≡ 0 → ⊥) → n ≤ 16384

-- r is how many bytes a run of n words with the mark m has, whatever the words
pub record RunSized (m n r : ℕ) : Type 0 where
  pub size : (ws : List ℕ) → length ws ≡ n → length (run_field m ws) ≡ r
  pub small : r ≤ n * 5

-- r is how many bytes the runs of words with these marks have, whatever the words
pub record RunsSized (ms : List ℕ) (r : ℕ) : Type 0 where
  pub size : (ws : List ℕ) → length ws ≡ length ms → length (run_bytes ws ms) ≡ r
  pub small : r ≤ length ms * 5
