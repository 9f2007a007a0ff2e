-- What six buffers hold while an object is loaded into them: the layout of what was read. Assumes nothing.
use Rattle.std.specs.Prelude.{◌≡◌, false, List, [], ◌∷◌, ◌++◌, map, ℕ, zero, suc, ◌+◌, ◌*◌, ◌/◌, ◌%◌, ◌≤◌, length, get_or, replicate}
use Rattle.std.proofs.Math.Seq.{paste}
use Rattle.rules.specs.Objects.{Cell, flat, heads}
use Rattle.rules.specs.Buffers.{Buffers, short, lent_words, lay, head_cells, word_of, mark_of, name_bytes, label_cells, reloc_cells}
use Rattle.rules.specs.Stored.{State, next, flatten}
use Rattle.laws_stored.specs.Offsets.{numbers_at}
use Rattle.object_layout_labels.specs.Laying.{PutLabel}
use Rattle.stored_walk.specs.declared.Walk.{Walk}
use Rattle.stored_walk.specs.Walking.{Tells, Onward}

-- the row of the open block, if one is
abbrev pub opened : ℕ → ℕ → ℕ → List ℕ
opened zero a n = []
opened (suc k) a n = a ∷ n ∷ []

-- the rows of the blocks, the open one among them
unfoldable pub heads_so_far : State → List ℕ
heads_so_far s = head_cells (heads s.blocks) ++ opened s.owed s.start s.total

-- the words of the closed blocks, and of the open one those that were read
unfoldable pub cells_so_far : State → List Cell
cells_so_far s = flat s.blocks ++ flatten s.runs

-- what was read stands in the buffers, whose lengths are those of `out`
pub record Laid (s : State) (out now : Buffers) : Type 0 where
  pub blocks : now.blocks ≡ lay (heads_so_far s) (length out.blocks)
  pub words : now.words ≡ lay (map word_of (cells_so_far s)) (length out.words)
  pub marks : now.marks ≡ lay (map mark_of (cells_so_far s)) (length out.marks)
  pub labels : now.labels ≡ lay (label_cells 0 s.labels) (length out.labels)
  pub relocs : now.relocs ≡ lay (reloc_cells s.labels s.relocs) (length out.relocs)
  pub names : now.names ≡ lay (name_bytes s.labels) (length out.names)

-- A FIELD IS MET

-- it may follow what was read in state s, r is how things stand behind it, and the words up to there fit
pub record Meets (b places places' : List ℕ) (w : Walk) (s : State) (r : Walk) (out now : Buffers) : Type 0 where
  pub tells : Tells b places w s
  pub onward : Onward b places' w s r
  pub laid : Laid s out now
  pub full : short out ≡ false
  pub room : r.words ≤ lent_words out.words out.marks

-- in some state
pub record Met (b : List ℕ) (w r : Walk) (now : Buffers) : Type 0 where
  pub places : List ℕ
  pub places' : List ℕ
  pub state : State
  pub out : Buffers
  pub meets : Meets b places places' w state r out now

-- AND PUT: what was read with it stands in the buffers
pub record Puts (b : List ℕ) (w r : Walk) (x y : Buffers) : Type 0 where
  pub laid : (places places' : List ℕ) (s : State) (out : Buffers) (m : Meets b places places' w s r out x) → Laid (next s m.onward.item) out y

-- WORDS

unfoldable pub ones : ℕ → List ℕ
ones n = replicate n 1

-- a number whose bytes have changed places, n such numbers from a place on, and n words with their bytes changed
abbrev pub turned : ℕ → ℕ
turned w = w % 256 * 256 + w / 256

unfoldable pub turned_numbers : List ℕ → (start n : ℕ) → List ℕ
turned_numbers b i zero = []
turned_numbers b i (suc n) = (get_or b i 0 + get_or b (i + 1) 0 * 256) ∷ turned_numbers b (i + 2) n

unfoldable pub turned_from : List ℕ → (at n : ℕ) → List ℕ
turned_from ws i zero = []
turned_from ws i (suc n) = turned (get_or ws i 0) ∷ turned_from ws (i + 1) n

-- the n words from `start` on, each marked as set, from place `at` on
pub record PutWords (b : List ℕ) (start n : ℕ) (ws ms ws' ms' : List ℕ) (at : ℕ) : Type 0 where
  pub words : ws' ≡ paste ws at (numbers_at b start n) n
  pub marks : ms' ≡ paste ms at (ones n) n

-- they are there, and room for them
pub record WordRoom (b : List ℕ) (start n : ℕ) (ws ms : List ℕ) (at : ℕ) : Type 0 where
  pub there : start + n + n ≤ length b
  pub words : at + n ≤ length ws
  pub marks : at + n ≤ length ms

-- LABELS

-- room for row k and for n name bytes behind `at`
pub record LabelRoom (ls ns : List ℕ) (k at n : ℕ) : Type 0 where
  pub row : k * 4 + 4 ≤ length ls
  pub place : at + n ≤ length ns
  pub small : at + n ≤ 65536

-- with a label as row k and its name behind `at` name bytes
pub record Labelled (ls ns ls' ns' : List ℕ) (k at a f : ℕ) (m : List ℕ) : Type 0 where
  pub put : PutLabel ls ns ls' ns' k at a f m (at + length m)
