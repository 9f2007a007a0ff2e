-- How a walk stands behind a field, and the tests whether a field may follow. Assumes nothing.
use Rattle.std.specs.Prelude.{Bool, true, false, ◌&&◌, not, List, ℕ, zero, suc, ◌+◌, ◌-◌, ◌≤◌, ◌<◌, length, eqb, leb, ltb}
use Rattle.rules.specs.Tables.{name_order}
use Rattle.rules.specs.Objects.{Lab, Name, good_name}
use Rattle.rules.specs.Stored.{label, reloc, is_less}
use Rattle.laws_stored.specs.Offsets.{part_at}
use Rattle.laws_stored.proofs.Accepted.{Finds}
use Rattle.stored_walk.specs.declared.Walk.{Walk}

-- BLOCKS

-- behind a block of n words that ends before a floor
abbrev pub behind_block : Walk → ℕ → ℕ → ℕ → Walk
behind_block w at floor n = record {
  at = at;
  blocks = w.blocks + 1;
  words = w.words;
  floor = floor;
  owed = n;
  previous = 0;
  labels = w.labels;
  named = w.named;
  relocations = w.relocations;
  least = w.least;
  row = w.row;
  seen = w.seen;
  address = w.address;
}

-- a block of n words from address a on may follow, if there is room for one more
abbrev pub block_placed : Walk → ℕ → ℕ → Bool
block_placed w a n = eqb w.owed 0 && eqb w.labels 0 && eqb w.relocations 0 && (ltb 0 n && leb w.floor a && leb (a + n) 65024)

unfoldable pub block_fits : Walk → ℕ → ℕ → Bool
block_fits w a n = block_placed w a n && ltb w.blocks 64

-- RUNS

-- a run of set words that is full lets any run follow, a shorter one only unset words
unfoldable pub set_kind : ℕ → ℕ
set_kind n = elim (eqb n 16384) [ true ↦ 0 | false ↦ 1 ]

-- at a block's end any run may follow
abbrev pub kind_left : ℕ → ℕ → ℕ
kind_left zero k = 0
kind_left (suc n) k = k

-- behind a run of n words
abbrev pub behind_run : Walk → ℕ → ℕ → ℕ → Walk
behind_run w at n k = record {
  at = at;
  blocks = w.blocks;
  words = w.words + n;
  floor = w.floor;
  owed = w.owed - n;
  previous = kind_left (w.owed - n) k;
  labels = w.labels;
  named = w.named;
  relocations = w.relocations;
  least = w.least;
  row = w.row;
  seen = w.seen;
  address = w.address;
}

-- a run of n set words may follow
unfoldable pub set_fits : Walk → ℕ → Bool
set_fits w n = ltb 0 n && leb n 16384 && leb n w.owed && not (eqb w.previous 1)

-- a run of n unset words may follow
unfoldable pub unset_fits : Walk → ℕ → Bool
unset_fits w n = ltb 0 n && leb n w.owed && not (eqb w.previous 2)

-- LABELS

-- behind a label whose name has n bytes
abbrev pub behind_label : Walk → ℕ → ℕ → Walk
behind_label w at n = record {
  at = at;
  blocks = w.blocks;
  words = w.words;
  floor = w.floor;
  owed = w.owed;
  previous = w.previous;
  labels = w.labels + 1;
  named = w.named + n;
  relocations = w.relocations;
  least = w.least;
  row = w.row;
  seen = w.seen;
  address = w.address;
}

-- a label may follow, if its name may
unfoldable pub label_fits : Walk → Bool
label_fits w = eqb w.owed 0 && eqb w.relocations 0 && ltb w.labels 1024

-- a name may follow the last one
unfoldable pub name_fits : Name → Name → Bool
name_fits last n = is_less (name_order.tri last n) && good_name n

-- the field of a label: its name stands from start up to end
pub record NamedAt (b : List ℕ) (at start end : ℕ) : Type 0 where
  pub lab : Lab
  pub found : Finds b at (label (part_at b start (end - start)) lab) end
  pub order : start ≤ end
  pub within : end ≤ length b

-- RELOCATIONS

-- behind a relocation of a label row; words below `least` are passed, and the next one's is looked for from the field at `seen` on
abbrev pub behind_reloc : Walk → (at least row seen address : ℕ) → Walk
behind_reloc w at least row seen address = record {
  at = at;
  blocks = w.blocks;
  words = w.words;
  floor = w.floor;
  owed = w.owed;
  previous = w.previous;
  labels = w.labels;
  named = w.named;
  relocations = w.relocations + 1;
  least = least;
  row = row;
  seen = seen;
  address = address;
}

-- a relocation at address a may follow, if its word and its name allow it
unfoldable pub reloc_fits : Walk → ℕ → Bool
reloc_fits w a = eqb w.owed 0 && leb w.least a && ltb w.relocations 1024

-- the field of a relocation at address a: its name stands from start up to end
pub record RelocAt (b : List ℕ) (at a start end : ℕ) : Type 0 where
  pub low : a < 65536
  pub found : Finds b at (reloc a (part_at b start (end - start))) end
