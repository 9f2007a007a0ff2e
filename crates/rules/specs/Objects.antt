-- The object, and what makes one good, in the words of section "Stored form" of document 01. Assumes nothing.
use Rattle.std.specs.Prelude.{◌≡◌, Bool, true, false, ◌&&◌, List, [], ◌∷◌, ◌++◌, map, ℕ, suc, ◌+◌, ◌≤◌, ◌<◌, length, eqb, leb}
use Rattle.std.proofs.Math.Option.{Option, none, some}
use Rattle.rules.specs.Base.{same}
use Rattle.rules.specs.Capacities.{name_room, block_room, label_room, reloc_room, word_room}
use Rattle.rules.specs.Tokens.{Found, token, blank, bad, token_at, upper}
use Rattle.rules.specs.Statements.{as_label}
use Rattle.rules.specs.Tables.{Table, look, Sorted, nat_order, name_order}

-- a word beside a set mark: unset, or set to a word
pub data Cell : Type 0 where
  unset : Cell
  word : ℕ → Cell

-- what a label says: it is external, or defined at an address
pub data Lab : Type 0 where
  outer : Lab
  defined : ℕ → Lab

abbrev pub Name : Type 0
Name = List ℕ

-- three tables: a block's words by its start, labels by name, and by address the names of relocations
pub record Object : Type 0 where
  pub blocks : Table ℕ (List Cell)
  pub labels : Table Name Lab
  pub relocs : Table ℕ Name

abbrev pub object : Table ℕ (List Cell) → Table Name Lab → Table ℕ Name → Object
object b l r = record { blocks = b; labels = l; relocs = r }

-- the object with nothing
abbrev pub nothing : Object
nothing = object [] [] []

-- the words of all blocks together, one block after another
abbrev pub flat : Table ℕ (List Cell) → List Cell
flat [] = []
flat (b ∷ bs) = b.1 ++ flat bs

-- counts of blocks, words, labels, relocations
pub record Counts : Type 0 where
  pub blocks : ℕ
  pub words : ℕ
  pub labels : ℕ
  pub relocs : ℕ

abbrev pub counts_of : Object → Counts
counts_of o = record { blocks = length o.blocks; words = length (flat o.blocks); labels = length o.labels; relocs = length o.relocs }

-- BY ADDRESS AND BY NAME

-- the words of a block that starts at s, each with its address
abbrev pub cells_from : ℕ → List Cell → Table ℕ Cell
cells_from s [] = []
cells_from s (c ∷ cs) = (s, c) ∷ cells_from (suc s) cs

abbrev pub cells : Table ℕ (List Cell) → Table ℕ Cell
cells [] = []
cells (b ∷ bs) = cells_from b.0 b.1 ++ cells bs

-- starts and lengths
abbrev pub heads : Table ℕ (List Cell) → Table ℕ ℕ
heads [] = []
heads (b ∷ bs) = (b.0, length b.1) ∷ heads bs

abbrev pub head_at : Object → ℕ → Option ℕ
head_at o s = look nat_order (heads o.blocks) s

abbrev pub cell_at : Object → ℕ → Option Cell
cell_at o x = look nat_order (cells o.blocks) x

abbrev pub lab_of : Object → Name → Option Lab
lab_of o n = look name_order o.labels n

abbrev pub rel_at : Object → ℕ → Option Name
rel_at o x = look nat_order o.relocs x

-- An external has address 0 in the table.
abbrev pub address_of : Lab → ℕ
address_of outer = 0
address_of (defined a) = a

-- LOOKUPS

-- lookup_label: what the table says of a name, matched in upper case
unfoldable pub lookup_label : Object → List ℕ → Option Lab
lookup_label o n = lab_of o (map upper n)

-- Of several labels at an address the smallest name answers, externals counted at 0: the first, since labels stand by name.
unfoldable pub first_at : ℕ → Table Name Lab → Option Name
first_at a [] = none
first_at a (e ∷ t) = elim (eqb (address_of e.1) a) [ true ↦ some e.0 | false ↦ first_at a t ]

-- rev_lookup_label
unfoldable pub rev_lookup_label : Object → ℕ → Option Name
rev_lookup_label o a = first_at a o.labels

-- WHAT MAKES AN OBJECT GOOD

-- names: one label token in upper case
unfoldable pub label_word : List ℕ → Found → Bool
label_word t (token k) = elim (as_label k) [ none ↦ false | some u ↦ same t u ]
label_word t blank = false
label_word t (bad n) = false

unfoldable pub label_token : List ℕ → Bool
label_token [] = false
label_token (c ∷ s) = let m = token_at c s in eqb m.size (length (c ∷ s)) && label_word (c ∷ s) m.found

-- at most 64 bytes
unfoldable pub good_name : Name → Bool
good_name n = label_token n && leb (length n) name_room

-- no zero counts
abbrev pub Full : Table ℕ (List Cell) → Type 0
Full [] = Unit {0}
Full (b ∷ bs) = (0 < length b.1) × Full bs

-- The fields of the record are the rules of the stored form, one each.
pub record Good (o : Object) : Type 0 where
  -- Order: blocks by start, without repeats,
  pub heads_up : Sorted nat_order (heads o.blocks)
  -- labels, defined and external together, by name bytewise, relocations by address;
  pub labels_up : Sorted name_order o.labels
  pub relocs_up : Sorted nat_order o.relocs
  -- zero counts
  pub filled : Full o.blocks
  -- wrong names (one label token in upper case, at most 64 bytes)
  pub named : (n : Name) (v : Lab) → lab_of o n ≡ some v → good_name n ≡ true
  -- overlap
  pub cells_up : Sorted nat_order (cells o.blocks)
  -- an end above xFE00
  pub low : (x : ℕ) (c : Cell) → cell_at o x ≡ some c → x < word_room
  -- more than a capacity
  pub few_blocks : length o.blocks ≤ block_room
  pub few_labels : length o.labels ≤ label_room
  pub few_relocs : length o.relocs ≤ reloc_room
  -- a relocation that is not at a set word 0
  pub reloc_zero : (x : ℕ) (n : Name) → rel_at o x ≡ some n → cell_at o x ≡ some (word 0)
  -- or names no external
  pub reloc_outer : (x : ℕ) (n : Name) → rel_at o x ≡ some n → lab_of o n ≡ some outer
  -- all numbers are two bytes
  pub words_low : (x w : ℕ) → cell_at o x ≡ some (word w) → w < 65536
  pub labels_low : (n : Name) (a : ℕ) → lab_of o n ≡ some (defined a) → a < 65536

unfoldable pub holding : Unit {0}
unfolding lookup_label first_at rev_lookup_label label_word label_token good_name
holding = tt
